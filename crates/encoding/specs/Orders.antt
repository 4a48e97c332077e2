-- Fields in the order of their numbers.
use Rattle.std.specs.Prelude.{◌≡◌, ℕ, suc, ◌<◌, ◌≤◌, Bool, true, false, cond, leb, List, [], ◌∷◌, ◌++◌, ◌≢◌, nat_le, refl}
use Rattle.std.proofs.Common.{sym, ap, subst, arith}
use Rattle.std.specs.List.{AllByRecursion}
use Rattle.std.proofs.lemmas.Bool.{le-leb, lt-leb}
use Rattle.encoding.specs.Wire.{Field, number_of, Small}
use Rattle.encoding.specs.Messages.{Ordered, up_to, past, last_of}

pub all_small : (K : Field → Bool) (lo hi : ℕ) (fs : List Field) → Ordered K lo hi fs → AllByRecursion Small fs
unfolding Ordered
all_small K lo hi [] o = tt
all_small K lo hi (f ∷ fs) o = (o.3, all_small K (number_of f) hi fs o.4)

pub lower : (K : Field → Bool) (lo lo' hi : ℕ) (fs : List Field) → lo' ≤ lo → Ordered K lo hi fs → Ordered K lo' hi fs
unfolding Ordered
lower K lo lo' hi [] l o = tt
lower K lo lo' hi (f ∷ fs) l o = (omega (arith, o.0), o.1, o.2, o.3, o.4)

pub last_push : (d : ℕ) (fs : List Field) (f : Field) → last_of d (fs ++ (f ∷ [])) ≡ number_of f
unfolding last_of
last_push d [] f = refl
last_push d (g ∷ fs) f = last_push (number_of g) fs f

pub last_above : (K : Field → Bool) (lo hi : ℕ) (fs : List Field) → Ordered K lo hi fs → lo ≤ last_of lo fs
unfolding Ordered last_of
last_above K lo hi [] o = omega arith
last_above K lo hi (f ∷ fs) o = omega (arith, o.0, last_above K (number_of f) hi fs o.4)

-- what follows the fields of a record in another's is not before them
pub last_before : (K : Field → Bool) (lo hi : ℕ) (fs : List Field) (f : Field) (gs : List Field) → Ordered K lo hi (fs ++ (f ∷ gs)) → last_of lo fs ≤ number_of f
unfolding Ordered last_of
last_before K lo hi [] f gs o = o.0
last_before K lo hi (g ∷ fs) f gs o = last_before K (number_of g) hi fs f gs o.4

pub up_to_last : (K : Field → Bool) (lo hi k : ℕ) (fs : List Field) → Ordered K lo hi fs → last_of lo fs ≤ k → (up_to k fs ≡ fs) × (past k fs ≡ [])
unfolding Ordered last_of up_to past
up_to_last K lo hi k [] o l = (refl, refl)
up_to_last K lo hi k (f ∷ fs) o l =
    let m = last_above K (number_of f) hi fs o.4 in
    let ih = up_to_last K (number_of f) hi k fs o.4 l in
    let t : leb (number_of f) k ≡ true = le-leb (number_of f) k (omega arith) in
    (rw t (ap (λ x. f ∷ x) ih.0), rw t ih.1)

-- fields up to k before others
pub up_to_append : (K : Field → Bool) (lo hi k : ℕ) (A B : List Field) → Ordered K lo hi A → hi ≤ k → (up_to k (A ++ B) ≡ A ++ up_to k B) × (past k (A ++ B) ≡ past k B)
unfolding Ordered up_to past
up_to_append K lo hi k [] B o l = (refl, refl)
up_to_append K lo hi k (f ∷ A) B o l =
    let ih = up_to_append K (number_of f) hi k A B o.4 l in
    let t : leb (number_of f) k ≡ true = le-leb (number_of f) k (omega (arith, o.1)) in
    (rw t (ap (λ x. f ∷ x) ih.0), rw t ih.1)

-- fields past k
pub up_to_past : (K : Field → Bool) (lo hi k : ℕ) (B : List Field) → Ordered K lo hi B → k < lo → (up_to k B ≡ []) × (past k B ≡ B)
unfolding Ordered up_to past
up_to_past K lo hi k [] o l = (refl, refl)
up_to_past K lo hi k (f ∷ B) o l =
    let m = o.0 in
    let ih = up_to_past K (number_of f) hi k B o.4 (omega arith) in
    let t : leb (number_of f) k ≡ false = lt-leb (number_of f) k (omega arith) in
    (rw t ih.0, rw t (ap (λ x. f ∷ x) ih.1))

-- what stands between two numbers holds of each field
pub within : (K : Field → Bool) (lo hi : ℕ) (fs : List Field) → Ordered K lo hi fs → AllByRecursion (λ f. (lo ≤ number_of f) × (number_of f ≤ hi) × (K f ≡ true)) fs
unfolding Ordered
within K lo hi [] o = tt
within K lo hi (f ∷ fs) o = ((o.0, o.1, o.2), wider fs (within K (number_of f) hi fs o.4))
  where
    wider : (gs : List Field) → AllByRecursion (λ g. (number_of f ≤ number_of g) × (number_of g ≤ hi) × (K g ≡ true)) gs → AllByRecursion (λ g. (lo ≤ number_of g) × (number_of g ≤ hi) × (K g ≡ true)) gs
    wider [] a = tt
    wider (g ∷ gs) a = ((omega (arith, o.0, a.0.0), a.0.1, a.0.2), wider gs a.1)

empty_cons : {X : Type 0} (x : X) (xs : List X) → [] ≢ x ∷ xs
empty_cons x xs e = let z : ◌≡◌ {A = ℕ} 0 1 = cc in omega arith

apart : (k : ℕ) (f g : Field) → f ≡ g → number_of f ≤ k → k < number_of g → ⊥
apart k f g e a b = omega (arith, ap number_of e)

-- equal fields have equal parts
pub split_same : (K : Field → Bool) (k j hi : ℕ) (A A' B B' : List Field) → Ordered K j k A → Ordered K j k A' → Ordered K (suc k) hi B → Ordered K (suc k) hi B' → A ++ B ≡ A' ++ B' → (A ≡ A') × (B ≡ B')
unfolding Ordered
split_same K k j hi [] [] B B' a a' b b' e = (refl, e)
split_same K k j hi [] (x ∷ A') [] B' a a' b b' e = absurd (empty_cons x (A' ++ B') e)
split_same K k j hi [] (x ∷ A') (y ∷ B) B' a a' b b' e = let u : x ≡ y = cc in absurd (apart k x y u a'.1 b.0)
split_same K k j hi (x ∷ A) [] B [] a a' b b' e = absurd (empty_cons x (A ++ B) (sym e))
split_same K k j hi (x ∷ A) [] B (y ∷ B') a a' b b' e = let u : x ≡ y = cc in absurd (apart k x y u a.1 b'.0)
split_same K k j hi (x ∷ A) (y ∷ A') B B' a a' b b' e =
    let u : x ≡ y = cc in
    let v : A ++ B ≡ A' ++ B' = cc in
    let ih = split_same K k (number_of x) hi A A' B B' a.4 (subst (λ (n : ℕ). Ordered K n k A') (sym (ap number_of u)) a'.4) b b' v in
    let w = ih.0 in
    (cc, ih.1)

-- a field with the first part's number, after that part's: the other's first part goes on with it
pub covers : (K : Field → Bool) (k j hi : ℕ) (A A' B' : List Field) (f : Field) (gs : List Field) → Ordered K j k A → Ordered K (suc k) hi B' → number_of f ≡ k
    → A' ++ B' ≡ A ++ (f ∷ gs) → (hs : List Field) × (A' ≡ A ++ (f ∷ hs))
unfolding Ordered
covers K k j hi [] [] [] f gs a b n e = absurd (empty_cons f gs e)
covers K k j hi [] [] (y ∷ B') f gs a b n e = let u : f ≡ y = cc in absurd (apart k f y u (omega arith) b.0)
covers K k j hi [] (x ∷ A') B' f gs a b n e = let u : x ≡ f = cc in (A', cc)
covers K k j hi (x ∷ A) [] [] f gs a b n e = absurd (empty_cons x (A ++ (f ∷ gs)) e)
covers K k j hi (x ∷ A) [] (y ∷ B') f gs a b n e = let u : x ≡ y = cc in absurd (apart k x y u a.1 b.0)
covers K k j hi (x ∷ A) (y ∷ A') B' f gs a b n e =
    let u : x ≡ y = cc in
    let v : A' ++ B' ≡ A ++ (f ∷ gs) = cc in
    let ih = covers K k (number_of x) hi A A' B' f gs a.4 b n v in
    let w = ih.1 in
    (ih.0, cc)

-- where what follows begins with a larger number, the first parts are equal
pub split_head : (K : Field → Bool) (k j hi : ℕ) (A A' B' : List Field) (h : Field) (hs : List Field) → Ordered K j k A → Ordered K j k A' → Ordered K (suc k) hi B' → k < number_of h
    → A' ++ B' ≡ A ++ (h ∷ hs) → B' ≡ h ∷ hs
unfolding Ordered
split_head K k j hi [] [] B' h hs a a' b n e = e
split_head K k j hi [] (x ∷ A') B' h hs a a' b n e = let u : x ≡ h = cc in absurd (apart k x h u a'.1 n)
split_head K k j hi (x ∷ A) [] [] h hs a a' b n e = absurd (empty_cons x (A ++ (h ∷ hs)) e)
split_head K k j hi (x ∷ A) [] (y ∷ B') h hs a a' b n e = let u : x ≡ y = cc in absurd (apart k x y u a.1 b.0)
split_head K k j hi (x ∷ A) (y ∷ A') B' h hs a a' b n e =
    let u : x ≡ y = cc in
    let v : A' ++ B' ≡ A ++ (h ∷ hs) = cc in
    split_head K k (number_of x) hi A A' B' h hs a.4 (subst (λ (m : ℕ). Ordered K m k A') (sym (ap number_of u)) a'.4) b n v

pub split_later : (K : Field → Bool) (k j hi : ℕ) (A A' B' X : List Field) (f : Field) (gs : List Field) → Ordered K j k A → Ordered K j k A' → Ordered K (suc k) hi B'
    → AllByRecursion (λ x. k < number_of x) X → k < number_of f → A' ++ B' ≡ A ++ (X ++ (f ∷ gs)) → B' ≡ X ++ (f ∷ gs)
split_later K k j hi A A' B' [] f gs a a' b x n e = split_head K k j hi A A' B' f gs a a' b n e
split_later K k j hi A A' B' (y ∷ X) f gs a a' b x n e = split_head K k j hi A A' B' y (X ++ (f ∷ gs)) a a' b x.0 e

pub up_to_above : (K : Field → Bool) (lo hi k : ℕ) (B : List Field) → Ordered K (suc lo) hi B → AllByRecursion (λ x. lo < number_of x) (up_to k B)
unfolding Ordered up_to
up_to_above K lo hi k [] o = tt
up_to_above K lo hi k (f ∷ B) o = go (nat_le (number_of f) k) (up_to_above K lo hi k B (lower K (number_of f) (suc lo) hi B o.0 o.4))
  where
    go : (b : Bool) → AllByRecursion (λ x. lo < number_of x) (up_to k B) → AllByRecursion (λ x. lo < number_of x) (cond b (f ∷ up_to k B) (up_to k B))
    go true rest = (o.0, rest)
    go false rest = rest
