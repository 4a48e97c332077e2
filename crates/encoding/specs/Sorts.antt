-- The sorts of members: sound, and told by their fields.
use Rattle.std.specs.Prelude.{◌≡◌, ℕ, zero, suc, ◌+◌, ◌*◌, ◌/◌, ◌^◌, ◌<◌, ◌≤◌, Bool, true, List, [], ◌∷◌, ◌++◌, map, length, ℤ, pos, negsuc, Some, None, Option, refl}
use Rattle.std.proofs.Common.{◌∙◌, ap, subst, inl, inr, mul-suc, arith, of_z}
use Rattle.std.specs.Int.Signed.{mag}
use Rattle.std.specs.Int.{w64}
use Rattle.std.specs.Option.{option_map}
use Rattle.std.proofs.lemmas.List.{length-append}
use Rattle.std.proofs.lemmas.Bool.{cases_lt, lt-ltb, le-ltb}
use Rattle.encoding.specs.Wire.{base128, varint, Field, number, bytes, encode_field, encode, Small}
use Rattle.encoding.specs.Members.{unsigned, signed, text, present, each}
use Rattle.encoding.specs.Messages.{Ordered, Sound}
use Rattle.encoding.specs.Parts.{encode_one}

-- how long a varint is
lim : ℕ → ℕ
lim zero = 128
lim (suc j) = 128 * lim j

short : (j k v : ℕ) → v < lim j → length (base128 k v) ≤ suc j
unfolding base128 lim
short j zero v h = omega arith
short zero (suc k) v h = rw (lt-ltb v 128 h) (omega arith)
short (suc j) (suc k) v h = elim (cases_lt v 128) [
  | inl l ↦ rw (lt-ltb v 128 l) (omega arith)
  | inr g ↦ rw (le-ltb v 128 g) (omega (arith, short j k (v / 128) (omega arith)))
]

-- numbers up to n take at most w bytes
abbrev pub Wide : ℕ → ℕ → Type 0
Wide n w = (m : ℕ) → m ≤ n → length (varint m) ≤ w

pub one_byte : {n : ℕ} → n < 128 → Wide n 1
unfolding lim
one_byte l m h = short 0 9 m (omega arith)

pub two_bytes : {n : ℕ} → n < 16384 → Wide n 2
unfolding lim
two_bytes l m h = short 1 9 m (omega arith)

five_bytes : (v : ℕ) → v < 2 ^ 32 → length (varint v) ≤ 5
unfolding lim
five_bytes v h = short 4 9 v (omega arith)

pub ten_bytes : (v : ℕ) → v < 2 ^ 64 → length (varint v) ≤ 10
unfolding lim
ten_bytes v h = short 9 9 v (omega arith)

-- one field alone
number-sound : (K : Field → Bool) (k v n : ℕ) → 1 ≤ k → k ≤ 15 → K (number k v) ≡ true → v < 2 ^ 64 → length (varint v) ≤ n → Sound K k k (1 + n) (number k v ∷ [])
unfolding Ordered Small encode_field
number-sound K k v n l m kn fit sz = record {
  ordered = (omega arith, omega arith, kn, (omega arith, fit), tt);
  size = omega (arith, ap length (encode_one (number k v)), length-append (varint (8 * k)) (varint v), one_byte {n = 120} (omega arith) (8 * k) (omega arith));
}

pub bytes-sound : (K : Field → Bool) (k n w : ℕ) (b : List ℕ) → 1 ≤ k → k ≤ 15 → K (bytes k b) ≡ true → n < 2 ^ 64 → length b ≤ n → Wide n w → Sound K k k (1 + w + n) (bytes k b ∷ [])
unfolding Ordered Small encode_field
bytes-sound K k n w b l m kn fit le wide = record {
  ordered = (omega arith, omega arith, kn, (omega arith, omega arith), tt);
  size = omega (arith, ap length (encode_one (bytes k b)), length-append (varint (8 * k + 2)) (varint (length b) ++ b), length-append (varint (length b)) b, one_byte {n = 122} (omega arith) (8 * k + 2) (omega arith), wide (length b) le);
}

wider : {K : Field → Bool} {k : ℕ} (n : ℕ) → Sound K k k n []
unfolding Ordered encode
wider n = record { ordered = tt; size = omega arith }

-- the members
pub unsigned-sound : (K : Field → Bool) (k v : ℕ) → 1 ≤ k → k ≤ 15 → ((u : ℕ) → K (number k u) ≡ true) → v < 2 ^ 32 → Sound K k k 6 (unsigned k v)
unsigned-sound K k zero l m kn h = wider 6
unsigned-sound K k (suc v) l m kn h = number-sound K k (suc v) 5 l m (kn (suc v)) (omega arith) (five_bytes (suc v) h)

wide_small : (z : ℤ) → mag z < 2 ^ 31 → of_z w64 z < 2 ^ 64
wide_small (pos n) h = omega arith
wide_small (negsuc n) h = omega arith

pub signed-sound : (K : Field → Bool) (k : ℕ) (z : ℤ) → 1 ≤ k → k ≤ 15 → ((u : ℕ) → K (number k u) ≡ true) → mag z < 2 ^ 31 → Sound K k k 11 (signed k z)
signed-sound K k z l m kn h = go (of_z w64 z) (wide_small z h)
  where
    go : (v : ℕ) → v < 2 ^ 64 → Sound K k k 11 (unsigned k v)
    go zero s = wider 11
    go (suc v) s = number-sound K k (suc v) 10 l m (kn (suc v)) s (ten_bytes (suc v) s)

pub text-sound : (K : Field → Bool) (k n w : ℕ) (u : List ℕ) → 1 ≤ k → k ≤ 15 → ((b : List ℕ) → K (bytes k b) ≡ true) → n < 2 ^ 64 → length u ≤ n → Wide n w → Sound K k k (1 + w + n) (text k u)
text-sound K k n w [] l m kn fit le wide = wider (1 + w + n)
text-sound K k n w (x ∷ xs) l m kn fit le wide = bytes-sound K k n w (x ∷ xs) l m (kn (x ∷ xs)) fit le wide

pub present-sound : {R : Type 0} (K : Field → Bool) (k n w : ℕ) (fields : R → List Field) (o : Option R) → 1 ≤ k → k ≤ 15 → ((b : List ℕ) → K (bytes k b) ≡ true) → n < 2 ^ 64 → ((r : R) → length (encode (fields r)) ≤ n) → Wide n w
    → Sound K k k (1 + w + n) (present fields k o)
present-sound K k n w fields None l m kn fit le wide = wider (1 + w + n)
present-sound K k n w fields (Some r) l m kn fit le wide = bytes-sound K k n w (encode (fields r)) l m (kn (encode (fields r))) fit (le r) wide

pub each-sound : {R : Type 0} (K : Field → Bool) (k n w : ℕ) (fields : R → List Field) (rs : List R) → 1 ≤ k → k ≤ 15 → ((b : List ℕ) → K (bytes k b) ≡ true) → n < 2 ^ 64 → ((r : R) → length (encode (fields r)) ≤ n) → Wide n w
    → Sound K k k ((1 + w + n) * length rs) (each fields k rs)
unfolding Ordered encode
each-sound K k n w fields [] l m kn fit le wide = wider _
each-sound K k n w fields (r ∷ rs) l m kn fit le wide =
    let one = bytes-sound K k n w (encode (fields r)) l m (kn (encode (fields r))) fit (le r) wide in
    let more = each-sound K k n w fields rs l m kn fit le wide in
    record {
      ordered = (one.ordered.0, one.ordered.1, one.ordered.2, one.ordered.3, more.ordered);
      size = omega (arith, length-append (encode_field (bytes k (encode (fields r)))) (encode (each fields k rs)), ap length (encode_one (bytes k (encode (fields r)))), one.size, more.size, mul-suc (1 + w + n) (length rs));
    }

-- equal fields are of equal members
pub text-told : (k : ℕ) (u v : List ℕ) → text k u ≡ text k v → u ≡ v
text-told k [] [] e = refl
text-told k [] (y ∷ ys) e = absurd (omega (arith, ap length e))
text-told k (x ∷ xs) [] e = absurd (omega (arith, ap length e))
text-told k (x ∷ xs) (y ∷ ys) e = cc

pub unsigned-told : (k u v : ℕ) → unsigned k u ≡ unsigned k v → u ≡ v
unsigned-told k zero zero e = refl
unsigned-told k zero (suc v) e = absurd (omega (arith, ap length e))
unsigned-told k (suc u) zero e = absurd (omega (arith, ap length e))
unsigned-told k (suc u) (suc v) e = cc

pub signed-told : (k : ℕ) (y z : ℤ) → mag y < 2 ^ 31 → mag z < 2 ^ 31 → signed k y ≡ signed k z → y ≡ z
signed-told k y z l m e = go y z l m (unsigned-told k (of_z w64 y) (of_z w64 z) e)
  where
    go : (y z : ℤ) → mag y < 2 ^ 31 → mag z < 2 ^ 31 → of_z w64 y ≡ of_z w64 z → y ≡ z
    go (pos a) (pos b) l m e = ap pos e
    go (pos a) (negsuc b) l m e = absurd (omega arith)
    go (negsuc a) (pos b) l m e = absurd (omega arith)
    go (negsuc a) (negsuc b) l m e = let s : a ≡ b = omega arith in ap negsuc s

pub present-told : {R X : Type 0} (fields : R → List Field) (view : R → X) → ((a b : R) → encode (fields a) ≡ encode (fields b) → view a ≡ view b)
    → (k : ℕ) (o p : Option R) → present fields k o ≡ present fields k p → option_map view o ≡ option_map view p
present-told fields view inner k None None e = refl
present-told fields view inner k None (Some b) e = absurd (omega (arith, ap length e))
present-told fields view inner k (Some a) None e = absurd (omega (arith, ap length e))
present-told fields view inner k (Some a) (Some b) e = let q : encode (fields a) ≡ encode (fields b) = cc in ap Some (inner a b q)

pub each-told : {R X : Type 0} (fields : R → List Field) (view : R → X) → ((a b : R) → encode (fields a) ≡ encode (fields b) → view a ≡ view b)
    → (k : ℕ) (xs ys : List R) → each fields k xs ≡ each fields k ys → map view xs ≡ map view ys
each-told fields view inner k [] [] e = refl
each-told fields view inner k [] (y ∷ ys) e = absurd (omega (arith, ap length e))
each-told fields view inner k (x ∷ xs) [] e = absurd (omega (arith, ap length e))
each-told fields view inner k (x ∷ xs) (y ∷ ys) e =
    let q : encode (fields x) ≡ encode (fields y) = cc in
    let r : each fields k xs ≡ each fields k ys = cc in
    let h = inner x y q in
    let t = each-told fields view inner k xs ys r in
    cc

-- a record inside another, by its meaning
pub present_view : {R X : Type 0} (F : X → List Field) (view : R → X) (k : ℕ) (o : Option R) → present (λ r. F (view r)) k o ≡ present F k (option_map view o)
present_view F view k None = refl
present_view F view k (Some r) = refl

pub each_view : {R X : Type 0} (F : X → List Field) (view : R → X) (k : ℕ) (rs : List R) → each (λ r. F (view r)) k rs ≡ each F k (map view rs)
each_view F view k [] = refl
each_view F view k (r ∷ rs) = ap (λ t. bytes k (encode (F (view r))) ∷ t) (each_view F view k rs)

-- nothing in them, no fields
pub text_empty : (k : ℕ) (u : List ℕ) (more : List Field) → u ≡ [] → more ≡ [] → text k u ++ more ≡ []
text_empty k u more e m = ap (λ (x : List ℕ). text k x ++ more) e ∙ m

pub each_empty : {R X : Type 0} (F : X → List Field) (view : R → X) (k : ℕ) (rs : List R) → rs ≡ [] → each F k (map view rs) ++ [] ≡ []
each_empty {R} F view k rs e = ap (λ (xs : List R). each F k (map view xs) ++ []) e

pub within-size : {K : Field → Bool} {lo hi m : ℕ} {fs : List Field} (n : ℕ) → m ≤ n → Sound K lo hi m fs → Sound K lo hi n fs
within-size n l s = record { ordered = s.ordered; size = omega (arith, s.size) }

pub sound_as : {K : Field → Bool} {lo hi m : ℕ} {fs gs : List Field} → fs ≡ gs → Sound K lo hi m fs → Sound K lo hi m gs
sound_as {K} {lo} {hi} {m} e s = subst (Sound K lo hi m) e s
