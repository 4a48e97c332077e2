-- What the members of a record are written as, byte by byte.
use Rattle.std.specs.Prelude.{◌≡◌, ℕ, zero, suc, ◌+◌, ◌*◌, ◌^◌, ◌<◌, List, [], ◌∷◌, ◌++◌, map, length, take, ◌≢◌, slice_index_or, refl}
use Rattle.std.proofs.Common.{sym, ◌∙◌, ap, arith}
use Rattle.std.proofs.lemmas.List.{append_assoc, append-nil, length-append, map_more}
use Rattle.encoding.specs.Wire.{varint, Field, number, bytes, encode_field, encode}
use Rattle.encoding.specs.Members.{unsigned, text, each}
use Rattle.encoding.specs.declared.output.Output.{Output}
use Rattle.encoding.specs.Laying.{Laid}
use Rattle.encoding.specs.Layings.{then, laid_as}
use Rattle.encoding.specs.Varints.{base128_last, cap_nine}

pub encode_parts : (fs gs : List Field) → encode (fs ++ gs) ≡ encode fs ++ encode gs
unfolding encode
encode_parts [] gs = refl
encode_parts (f ∷ fs) gs = ap (λ (x : List ℕ). encode_field f ++ x) (encode_parts fs gs) ∙ sym (append_assoc (encode_field f) (encode fs) (encode gs))

pub encode-length : (fs gs : List Field) → length (encode (fs ++ gs)) ≡ length (encode fs) + length (encode gs)
encode-length fs gs = ap length (encode_parts fs gs) ∙ length-append (encode fs) (encode gs)

pub encode_one : (f : Field) → encode (f ∷ []) ≡ encode_field f
unfolding encode
encode_one f = append-nil (encode_field f)

pub number-bytes : (k v : ℕ) → (v ≢ 0) → encode (unsigned k v) ≡ varint (8 * k) ++ varint v
unfolding encode_field
number-bytes k zero h = absurd (h refl)
number-bytes k (suc v) h = encode_one (number k (suc v))

pub number-none : (k v : ℕ) → v ≡ 0 → encode (unsigned k v) ≡ []
unfolding encode
number-none k zero h = refl
number-none k (suc v) h = absurd (omega arith)

pub bytes-bytes : (k : ℕ) (b : List ℕ) → encode_field (bytes k b) ≡ (varint (8 * k + 2) ++ varint (length b)) ++ b
unfolding encode_field
bytes-bytes k b = sym (append_assoc (varint (8 * k + 2)) (varint (length b)) b)

pub text-bytes : (k : ℕ) (u : List ℕ) → (length u ≢ 0) → encode (text k u) ≡ (varint (8 * k + 2) ++ varint (length u)) ++ u
text-bytes k [] h = absurd (h refl)
text-bytes k (x ∷ xs) h = encode_one (bytes k (x ∷ xs)) ∙ bytes-bytes k (x ∷ xs)

pub text-none : (k : ℕ) (u : List ℕ) → length u ≡ 0 → encode (text k u) ≡ []
unfolding encode
text-none k [] h = refl
text-none k (x ∷ xs) h = absurd (omega arith)

-- one part after another
pub both : (fs gs : List Field) (old mid new : Output) → length old.out.now < 2 ^ 64 → Laid (encode fs) old mid → Laid (encode gs) mid new → Laid (encode (fs ++ gs)) old new
both fs gs old mid new room p q = laid_as _ _ old new (sym (encode_parts fs gs)) (then (encode fs) (encode gs) old mid new room p q)

pub each_more : {R : Type 0} (fields : R → List Field) (k : ℕ) (xs : List R) (i : ℕ) (x : R) → i < length xs → x ≡ slice_index_or xs i x
    → encode (each fields k (take (i + 1) xs)) ≡ encode (each fields k (take i xs)) ++ encode_field (bytes k (encode (fields x)))
each_more {R} fields k xs i x l e =
    let one : R → Field = λ r. bytes k (encode (fields r)) in
    ap encode (map_more one xs i x l) ∙ encode_parts (map one (take i xs)) (one (slice_index_or xs i x) ∷ []) ∙ ap (λ (t : List ℕ). encode (map one (take i xs)) ++ t) (encode_one (one (slice_index_or xs i x)) ∙ ap (λ (r : R). encode_field (one r)) (sym e))

pub alone : (fs : List Field) (old new : Output) → Laid (encode fs) old new → Laid (encode (fs ++ [])) old new
alone fs old new p = laid_as _ _ old new (ap encode (sym (append-nil fs))) p

pub key-size : (v : ℕ) → v < 128 → length (varint v) ≡ 1
key-size v h = ap length (base128_last 9 v (omega (arith, cap_nine)) h)

pub number_size : (k v : ℕ) → k < 16 → (v ≢ 0) → length (varint v) + 1 ≡ length (encode (unsigned k v))
number_size k v l h = omega (arith, ap length (number-bytes k v h), length-append (varint (8 * k)) (varint v), key-size (8 * k) (omega arith))

pub bytes-size : (k n : ℕ) (b : List ℕ) → k < 16 → n ≡ length b → length (varint n) + 1 + n ≡ length (encode_field (bytes k b))
bytes-size k n b l e =
    omega (arith, ap length (bytes-bytes k b), length-append (varint (8 * k + 2) ++ varint (length b)) b, length-append (varint (8 * k + 2)) (varint (length b)), key-size (8 * k + 2) (omega arith), ap (λ (m : ℕ). length (varint m)) e)

pub text-size : (k n a : ℕ) (b : List ℕ) → (n ≢ 0) → n ≡ length b → a ≡ length (encode_field (bytes k b)) → a ≡ length (encode (text k b))
text-size k n a [] z e p = absurd (z e)
text-size k n a (x ∷ xs) z e p = p ∙ ap length (sym (encode_one (bytes k (x ∷ xs))))
