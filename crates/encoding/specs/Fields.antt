-- Fields are told apart by their bytes: the encodings of fields are a prefix code.
use Rattle.std.specs.Prelude.{◌≡◌, ℕ, ◌+◌, ◌-◌, ◌*◌, ◌<◌, ◌≤◌, List, [], ◌∷◌, ◌++◌, length, take, drop, refl}
use Rattle.std.proofs.Common.{sym, ◌∙◌, ap, subst, arith}
use Rattle.std.specs.List.{AllByRecursion}
use Rattle.std.proofs.lemmas.List.{length-append, append_assoc, append-nil, append_cancel_left, take-append-drop, take-take, take_at, drop_at, drop-take}
use Rattle.encoding.specs.Wire.{varint, Field, number, bytes, encode_field, encode, Small}
use Rattle.encoding.specs.Scanning.{cap, unvarint}
use Rattle.encoding.specs.Varints.{complete, first, cap_nine, base128-some}

pub encode_push : (fs : List Field) (f : Field) → encode (fs ++ (f ∷ [])) ≡ encode fs ++ encode_field f
unfolding encode
encode_push [] f = append-nil (encode_field f)
encode_push (g ∷ fs) f = ap (λ (x : List ℕ). encode_field g ++ x) (encode_push fs f) ∙ sym (append_assoc (encode_field g) (encode fs) (encode_field f))

pub varint_unique : (a b : ℕ) (x y : List ℕ) → a < cap 9 → b < cap 9 → varint a ++ x ≡ varint b ++ y → (a ≡ b) × (x ≡ y)
varint_unique a b x y l m e =
    let p = complete 9 a x l in
    let q = complete 9 b y m in
    let same : a ≡ b = ap first (sym p ∙ ap (unvarint 9) e ∙ q) in
    (same, append_cancel_left (varint b) x y (subst (λ (n : ℕ). varint n ++ x ≡ varint b ++ y) same e))

pub parts_same : (v w r s : List ℕ) → length v ≡ length w → v ++ r ≡ w ++ s → (v ≡ w) × (r ≡ s)
parts_same v w r s l e = (
  sym (take_at v r (length v) refl) ∙ ap (take (length v)) e ∙ take_at w s (length v) (sym l),
  sym (drop_at v r (length v) refl) ∙ ap (drop (length v)) e ∙ drop_at w s (length v) (sym l),
)

pub take_split : {X : Type 0} (a n : ℕ) (xs : List X) → a ≤ n → take n xs ≡ take a xs ++ take (n - a) (drop a xs)
take_split a n xs h =
    let e : a + (n - a) ≡ n = omega arith in
    sym (take-append-drop a (take n xs)) ∙ ap (λ ys. ys ++ drop a (take n xs)) (take-take a n xs h)
    ∙ ap (λ ys. take a xs ++ ys) (subst (λ (m : ℕ). drop a (take m xs) ≡ take (n - a) (drop a xs)) e (drop-take a (n - a) xs))

-- the encodings of fields are a prefix code
pub field_unique : (f g : Field) (r s : List ℕ) → Small f → Small g → encode_field f ++ r ≡ encode_field g ++ s → (f ≡ g) × (r ≡ s)
unfolding encode_field Small
field_unique (number k v) (number j w) r s a b e =
    let p = varint_unique (8 * k) (8 * j) (varint v ++ r) (varint w ++ s) (omega (arith, cap_nine)) (omega (arith, cap_nine)) (sym (append_assoc (varint (8 * k)) (varint v) r) ∙ e ∙ append_assoc (varint (8 * j)) (varint w) s) in
    let q = varint_unique v w r s (omega (arith, cap_nine)) (omega (arith, cap_nine)) p.1 in
    let same : k ≡ j = omega (arith, p.0) in
    (cc q.0, q.1)
field_unique (number k v) (bytes j w) r s a b e =
    let p = varint_unique (8 * k) (8 * j + 2) (varint v ++ r) ((varint (length w) ++ w) ++ s) (omega (arith, cap_nine)) (omega (arith, cap_nine)) (sym (append_assoc (varint (8 * k)) (varint v) r) ∙ e ∙ append_assoc (varint (8 * j + 2)) (varint (length w) ++ w) s) in
    absurd (omega (arith, p.0))
field_unique (bytes k v) (number j w) r s a b e =
    let p = varint_unique (8 * k + 2) (8 * j) ((varint (length v) ++ v) ++ r) (varint w ++ s) (omega (arith, cap_nine)) (omega (arith, cap_nine)) (sym (append_assoc (varint (8 * k + 2)) (varint (length v) ++ v) r) ∙ e ∙ append_assoc (varint (8 * j)) (varint w) s) in
    absurd (omega (arith, p.0))
field_unique (bytes k v) (bytes j w) r s a b e =
    let p = varint_unique (8 * k + 2) (8 * j + 2) ((varint (length v) ++ v) ++ r) ((varint (length w) ++ w) ++ s) (omega (arith, cap_nine)) (omega (arith, cap_nine)) (sym (append_assoc (varint (8 * k + 2)) (varint (length v) ++ v) r) ∙ e ∙ append_assoc (varint (8 * j + 2)) (varint (length w) ++ w) s) in
    let q = varint_unique (length v) (length w) (v ++ r) (w ++ s) (omega (arith, cap_nine)) (omega (arith, cap_nine)) (sym (append_assoc (varint (length v)) v r) ∙ p.1 ∙ append_assoc (varint (length w)) w s) in
    let t = parts_same v w r s q.0 q.1 in
    let same : k ≡ j = omega (arith, p.0) in
    (cc t.0, t.1)

pub fields_split : (fs gs : List Field) (tail : List ℕ) → AllByRecursion Small fs → AllByRecursion Small gs → 0 < length tail → encode gs ≡ encode fs ++ tail
    → (g : Field) × ((rest : List Field) × (gs ≡ fs ++ (g ∷ rest)) × (encode_field g ++ encode rest ≡ tail) × Small g)
unfolding encode
fields_split [] [] tail a b n e = absurd (omega (arith, ap length e))
fields_split [] (g ∷ gs) tail a b n e = (g, (gs, refl, e, b.0))
fields_split (f ∷ fs) [] tail a b n e = absurd (omega (arith, ap length e ∙ length-append (encode_field f ++ encode fs) tail))
fields_split (f ∷ fs) (g ∷ gs) tail a b n e =
    let u = field_unique g f (encode gs) (encode fs ++ tail) b.0 a.0 (e ∙ append_assoc (encode_field f) (encode fs) tail) in
    let ih = fields_split fs gs tail a.1 b.1 n u.1 in
    let one = u.0 in
    let two = ih.1.1 in
    (ih.0, (ih.1.0, cc, ih.1.2, ih.1.3))

pub field-some : (f : Field) → 0 < length (encode_field f)
unfolding encode_field
field-some (number k v) = omega (arith, length-append (varint (8 * k)) (varint v), base128-some 9 (8 * k))
field-some (bytes k b) = omega (arith, length-append (varint (8 * k + 2)) (varint (length b) ++ b), base128-some 9 (8 * k + 2))

-- equal encodings are of equal fields
pub encode_same : (fs gs : List Field) → AllByRecursion Small fs → AllByRecursion Small gs → encode fs ≡ encode gs → fs ≡ gs
unfolding encode
encode_same [] [] a b e = refl
encode_same [] (g ∷ gs) a b e = absurd (omega (arith, ap length e, length-append (encode_field g) (encode gs), field-some g))
encode_same (f ∷ fs) [] a b e = absurd (omega (arith, ap length e, length-append (encode_field f) (encode fs), field-some f))
encode_same (f ∷ fs) (g ∷ gs) a b e =
    let u = field_unique f g (encode fs) (encode gs) a.0 b.0 e in
    let one = u.0 in
    let two = encode_same fs gs a.1 b.1 u.1 in
    cc
