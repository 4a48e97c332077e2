-- Varints: the reader undoes the writer, and what it accepts is the shortest form.
use Rattle.std.specs.Prelude.{◌≡◌, ℕ, zero, suc, ◌+◌, ◌-◌, ◌*◌, ◌/◌, ◌%◌, ◌^◌, ◌<◌, ◌≤◌, cond, ◌⊎◌, List, [], ◌∷◌, ◌++◌, length, drop, Some, None, Option, ◌==◌, ◌≢◌, nat_lt, refl}
use Rattle.std.proofs.Common.{sym, ◌∙◌, ap, subst, inl, arith, add-one}
use Rattle.std.proofs.Math.Logic.{inr}
use Rattle.std.proofs.lemmas.Bool.{cases_lt, cases_eq, lt-ltb, le-ltb, eq-eqb, ne_eqb}
use Rattle.encoding.specs.Wire.{base128, varint}
use Rattle.encoding.specs.Scanning.{unvarint, last_byte, more_bytes, cap}

-- what an answer of the reader says of the bytes
pub record Reads (k : ℕ) (bs : List ℕ) (v n : ℕ) : Type 0 where
  pub small : v < cap k
  pub front : bs ≡ base128 k v ++ drop n bs
  pub size : n ≡ length (base128 k v)
  pub within : n ≤ length bs
  pub some : 0 < n

pub cap_le : (k j : ℕ) → k ≤ j → cap k ≤ cap j
unfolding cap
cap_le k zero h = let e : k ≡ 0 = omega arith in subst (λ (x : ℕ). cap x ≤ 2) (sym e) (omega arith)
cap_le k (suc j) h =
    elim (cases_lt k (suc j)) [
      | inl l ↦ let i = cap_le k j (omega arith) in omega arith
      | inr g ↦ let e : k ≡ suc j = omega arith in subst (λ (x : ℕ). cap x ≤ cap (suc j)) (sym e) (omega arith)
    ]

pub cap_one : cap 1 ≡ 256
unfolding cap
cap_one = refl

pub cap_suc : (k : ℕ) → cap (suc k) ≡ 128 * cap k
unfolding cap
cap_suc k = refl

pub base128_last : (k v : ℕ) → v < cap k → v < 128 → base128 k v ≡ v ∷ []
unfolding base128
base128_last zero v s h = refl
base128_last (suc k) v s h = rw (lt-ltb v 128 h)

pub base128_more : (k v : ℕ) → 128 ≤ v → base128 (suc k) v ≡ (v % 128 + 128) ∷ base128 k (v / 128)
unfolding base128
base128_more k v h = rw (le-ltb v 128 h)

-- reading undoes writing, whatever follows
pub complete : (k v : ℕ) (rest : List ℕ) → v < cap k → unvarint k (base128 k v ++ rest) ≡ Some (v, length (base128 k v))
unfolding unvarint base128 cap
complete zero v rest h = let a : v < 128 = omega arith in rw (lt-ltb v 128 a, lt-ltb v 2 h)
complete (suc k) v rest h = elim (cases_lt v 128) [
  | inl l ↦ let nz : suc k ≡ 0 → ⊥ = λ e. omega arith in rw (lt-ltb v 128 l) (rw (lt-ltb v 128 l, ne_eqb (suc k) 0 nz) refl)
  | inr g ↦
      let b : 128 ≤ v % 128 + 128 = omega arith in
      let ih = complete k (v / 128) rest (omega arith) in
      let s : suc k - 1 ≡ k = omega arith in
      let nz : v / 128 ≡ 0 → ⊥ = λ e. omega arith in
      let val : (v % 128 + 128 - 128) + 128 * (v / 128) ≡ v = omega arith in
      let byte : v % 128 + 128 < 256 = omega arith in
      let sz : suc k ≡ 0 → ⊥ = λ e. omega arith in
      rw (le-ltb v 128 g) (rw (le-ltb (v % 128 + 128) 128 b, ne_eqb (suc k) 0 sz, lt-ltb (v % 128 + 128) 256 byte, s, ih, ne_eqb (v / 128) 0 nz, val, add-one))
]

abbrev pub first : Option (ℕ × ℕ) → ℕ
first (Some p) = p.0
first None = 0

abbrev pub second : Option (ℕ × ℕ) → ℕ
second (Some p) = p.1
second None = 0

pub none-some : {X : Type 0} (x : X) → None ≢ Some x
none-some x e = let z : ◌≡◌ {A = ℕ} 0 1 = cc in omega arith

-- what the reader accepts is the shortest form of what it answers
pub sound : (k : ℕ) (bs : List ℕ) (v n : ℕ) → unvarint k bs ≡ Some (v, n) → Reads k bs v n
unfolding unvarint
sound k [] v n h = absurd (none-some (v, n) h)
sound k (b ∷ bs) v n h = elim (cases_lt b 128) [
  | inl l ↦ last l (rw (lt-ltb b 128 l) at h)
  | inr g ↦ longer g (rw (le-ltb b 128 g) at h) (sound (k - 1) bs)
]
  where
    ended : b < 128 → b < cap k → ◌≡◌ {A = Option (ℕ × ℕ)} (Some (b, 1)) (Some (v, n)) → Reads k (b ∷ bs) v n
    ended l m e =
        let ev : b ≡ v = ap first e in
        let en : 1 ≡ n = ap second e in
        let at : base128 k v ≡ v ∷ [] = base128_last k v (omega arith) (omega arith) in
        subst (λ (m : ℕ). Reads k (b ∷ bs) v m) en
        (record { small = omega arith; front = cc; size = sym (ap length at); within = omega arith; some = omega arith })

    last : b < 128 → last_byte k b ≡ Some (v, n) → Reads k (b ∷ bs) v n
    last l e = elim (cases_eq k 0) [
      | inl z ↦ elim (cases_lt b 2) [
        | inl m ↦ ended l (subst (λ (x : ℕ). b < cap x) (sym z) (unfold cap in m)) (rw (eq-eqb k 0 z, lt-ltb b 2 m) at e)
        | inr m ↦ absurd (none-some (v, n) (rw (eq-eqb k 0 z, le-ltb b 2 m) at e))
      ]
      | inr z ↦ ended l (omega (arith, cap_le 1 k (omega arith), cap_one)) (rw (ne_eqb k 0 z) at e)
    ]

    go : 128 ≤ b → b < 256 → 0 < k → (o : Option (ℕ × ℕ)) → unvarint (k - 1) bs ≡ o → more_bytes b o ≡ Some (v, n)
        → ((w m : ℕ) → unvarint (k - 1) bs ≡ Some (w, m) → Reads (k - 1) bs w m) → Reads k (b ∷ bs) v n
    go g t p None u e ih = absurd (none-some (v, n) e)
    go g t p (Some q) u e ih = elim (cases_eq q.0 0) [
      | inl z ↦ absurd (none-some (v, n) (rw (eq-eqb q.0 0 z) at e))
      | inr z ↦
          let eq : ◌≡◌ {A = Option (ℕ × ℕ)} (Some ((b - 128) + 128 * q.0, q.1 + 1)) (Some (v, n)) = rw (ne_eqb q.0 0 z) at e in
          let ev : (b - 128) + 128 * q.0 ≡ v = ap first eq in
          let en : q.1 + 1 ≡ n = ap second eq in
          let i = ih q.0 q.1 u in
          let kk : suc (k - 1) ≡ k = omega arith in
          let quo : v / 128 ≡ q.0 = omega arith in
          let low : v % 128 + 128 ≡ b = omega arith in
          let dig : base128 k v ≡ b ∷ base128 (k - 1) q.0 = sym (ap (λ (x : ℕ). base128 x v) kk) ∙ base128_more (k - 1) v (omega arith) ∙ cc in
          let room : cap k ≡ 128 * cap (k - 1) = sym (ap cap kk) ∙ cap_suc (k - 1) in
          let rest : drop n (b ∷ bs) ≡ drop q.1 bs = ap (λ (x : ℕ). drop x (b ∷ bs)) (sym en) ∙ (simp add-one) in
          record {
            small = omega (arith, i.small);
            front = ap (λ (x : List ℕ). b ∷ x) i.front ∙ cc;
            size = sym en ∙ ap (λ (x : ℕ). x + 1) i.size ∙ (simp add-one) ∙ sym (ap length dig);
            within = omega (arith, i.within);
            some = omega arith;
          }
    ]

    longer : 128 ≤ b → cond (k == 0) None (cond (nat_lt b 256) (more_bytes b (unvarint (k - 1) bs)) None) ≡ Some (v, n)
        → ((w m : ℕ) → unvarint (k - 1) bs ≡ Some (w, m) → Reads (k - 1) bs w m) → Reads k (b ∷ bs) v n
    longer g e ih = elim (cases_eq k 0) [
      | inl z ↦ absurd (none-some (v, n) (rw (eq-eqb k 0 z) at e))
      | inr z ↦ elim (cases_lt b 256) [
        | inl t ↦ go g t (omega arith) (unvarint (k - 1) bs) refl (rw (ne_eqb k 0 z, lt-ltb b 256 t) at e) ih
        | inr t ↦ absurd (none-some (v, n) (rw (ne_eqb k 0 z, le-ltb b 256 t) at e))
      ]
    ]

-- the steps of the code, one by one
pub un_none : (k : ℕ) (bs : List ℕ) → length bs ≡ 0 → None ≡ unvarint k bs
unfolding unvarint
un_none k [] h = refl
un_none k (b ∷ bs) h = absurd (omega arith)

pub un_cons : (k : ℕ) (bs : List ℕ) (b : ℕ) (rest : List ℕ) → bs ≡ b ∷ rest
    → unvarint k bs ≡ cond (nat_lt b 128) (last_byte k b) (cond (k == 0) None (cond (nat_lt b 256) (more_bytes b (unvarint (k - 1) rest)) None))
unfolding unvarint
un_cons k bs b rest e = ap (unvarint k) e

pub un_more : (k : ℕ) (bs : List ℕ) (b : ℕ) (rest : List ℕ) (o : Option (ℕ × ℕ)) → bs ≡ b ∷ rest → 128 ≤ b → b < 256 → (k ≢ 0) → o ≡ unvarint (k - 1) rest
    → more_bytes b o ≡ unvarint k bs
un_more k bs b rest o e g t z h = ap (more_bytes b) h ∙ sym (un_cons k bs b rest e ∙ (rw (le-ltb b 128 g, ne_eqb k 0 z, lt-ltb b 256 t) refl))

pub un_bad_last : (k : ℕ) (bs : List ℕ) (b : ℕ) (rest : List ℕ) → bs ≡ b ∷ rest → b < 128 → k ≡ 0 → 2 ≤ b → None ≡ unvarint k bs
un_bad_last k bs b rest e l z m = sym (un_cons k bs b rest e ∙ (rw (lt-ltb b 128 l, eq-eqb k 0 z, le-ltb b 2 m) refl))

pub un_last : (k : ℕ) (bs : List ℕ) (b : ℕ) (rest : List ℕ) → bs ≡ b ∷ rest → b < 128 → ((k ≡ 0) × (b < 2)) ⊎ (k ≢ 0) → Some (b, 1) ≡ unvarint k bs
un_last k bs b rest e l (inl p) = sym (un_cons k bs b rest e ∙ (rw (lt-ltb b 128 l, eq-eqb k 0 p.0, lt-ltb b 2 p.1) refl))
un_last k bs b rest e l (inr z) = sym (un_cons k bs b rest e ∙ (rw (lt-ltb b 128 l, ne_eqb k 0 z) refl))

pub un_long : (k : ℕ) (bs : List ℕ) (b : ℕ) (rest : List ℕ) → bs ≡ b ∷ rest → 128 ≤ b → k ≡ 0 → None ≡ unvarint k bs
un_long k bs b rest e g z = sym (un_cons k bs b rest e ∙ (rw (le-ltb b 128 g, eq-eqb k 0 z) refl))

pub cap_nine : cap 9 ≡ 2 ^ 64
unfolding cap
cap_nine = refl

pub cap_room : (k v b : ℕ) → (k ≢ 0) → k ≤ 9 → v < cap (k - 1) → b < 256 → (b - 128) + 128 * v < 2 ^ 64
cap_room k v b z l s t =
    let kk : suc (k - 1) ≡ k = omega arith in
    let room : cap k ≡ 128 * cap (k - 1) = sym (ap cap kk) ∙ cap_suc (k - 1) in
    omega (arith, cap_le k 9 l, cap_nine)

pub cap_last : (k v : ℕ) → v < cap k → (k ≡ 0) ⊎ ((k ≢ 0) × (v < 128)) → v < 128
unfolding cap
cap_last k v s (inl z) = omega (arith, ap cap z)
cap_last k v s (inr p) = p.1

pub base128_end : (k v : ℕ) → v < cap k → (k ≡ 0) ⊎ ((k ≢ 0) × (v < 128)) → base128 k v ≡ v ∷ []
base128_end k v s e = base128_last k v s (cap_last k v s e)

pub base128_on : (k v : ℕ) → (k ≢ 0) → 128 ≤ v → base128 k v ≡ (v % 128 + 128) ∷ base128 (k - 1) (v / 128)
base128_on k v z g = let kk : suc (k - 1) ≡ k = omega arith in sym (ap (λ (x : ℕ). base128 x v) kk) ∙ base128_more (k - 1) v g

pub cap_on : (k v : ℕ) → (k ≢ 0) → v < cap k → v / 128 < cap (k - 1)
cap_on k v z s =
    let kk : suc (k - 1) ≡ k = omega arith in
    let room : cap k ≡ 128 * cap (k - 1) = sym (ap cap kk) ∙ cap_suc (k - 1) in
    omega arith

pub base128-some : (k v : ℕ) → 0 < length (base128 k v)
unfolding base128
base128-some zero v = omega arith
base128-some (suc k) v = elim (cases_lt v 128) [ inl l ↦ rw (lt-ltb v 128 l) (omega arith) | inr g ↦ rw (le-ltb v 128 g) (omega arith) ]

-- the least number that takes j bytes before its last
unfoldable pub span : ℕ → ℕ
span zero = 1
span (suc j) = 128 * span j

span-some : (j : ℕ) → 0 < span j
unfolding span
span-some zero = omega arith
span-some (suc j) = let i = span-some j in omega arith

pub base128-size : (j k v : ℕ) → (j ≡ 0) ⊎ (span j ≤ v) → v < span (suc j) → j ≤ k → suc j ≡ length (base128 k v)
unfolding base128 span
base128-size zero zero v lo hi h = refl
base128-size zero (suc k) v lo hi h = let l : v < 128 = omega arith in rw (lt-ltb v 128 l) refl
base128-size (suc j) k v (inl z) hi h = absurd (omega arith)
base128-size (suc j) zero v (inr lo) hi h = absurd (omega arith)
base128-size (suc j) (suc k) v (inr lo) hi h =
    let g : 128 ≤ v = omega (arith, span-some j) in
    let i = base128-size j k (v / 128) (inr (omega arith)) (omega arith) (omega arith) in
    rw (le-ltb v 128 g) (ap suc i)

-- with the bounds as numbers
pub varint-size : (j v lo hi : ℕ) → lo ≡ span j → hi ≡ span (suc j) → lo ≤ v → v < hi → j ≤ 9 → suc j ≡ length (varint v)
varint-size j v lo hi a b l h n = base128-size j 9 v (inr (omega arith)) (omega arith) n

pub base128_two : (v : ℕ) → 128 ≤ v → v < 16384 → varint v ≡ (v % 128 + 128) ∷ (v / 128) ∷ []
base128_two v g h = base128_more 8 v g ∙ ap (λ (t : List ℕ). (v % 128 + 128) ∷ t) (base128_last 8 (v / 128) (omega (arith, cap_le 1 8 (omega arith), cap_one)) (omega arith))
