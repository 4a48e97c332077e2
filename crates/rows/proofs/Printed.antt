-- The digits of a row, one byte further.
use Rattle.std.proofs.Common.{◌≡◌, ℕ, ◌+◌, ◌-◌, ◌/◌, ◌%◌, ◌^◌, ◌<◌, false, List, [], ◌∷◌, ◌++◌, length, get_or, take, map, refl, sym, ap, ◌∙◌, zero-add}
use Rattle.std.specs.List.{range_with_len}
use Rattle.std.specs.Fmt.{digits, padded_integral, char_count, format_spec}
use Rattle.std.proofs.lemmas.List.{take_more}
use Rattle.std.proofs.lemmas.List.FromFn.{get_or-map-range_with_len}
use Rattle.hex.specs.Hex.{lower_digits, encode_lower, encode_with}

-- what `{:02x}` writes
abbrev pub written : ℕ → List ℕ
written b = padded_integral (format_spec 32 0 4 2 (2 ^ 64 - 1)) false [] (digits 16 false b)

abbrev pair : ℕ → List ℕ
pair b = get_or lower_digits (b / 16) 0 ∷ get_or lower_digits (b % 16) 0 ∷ []

same_pairs : map written (range_with_len 0 256) ≡ map pair (range_with_len 0 256)
unfolding digits padded_integral char_count
same_pairs = refl

same_pair : (b : ℕ) → b < 256 → written b ≡ pair b
same_pair b h =
    sym (get_or-map-range_with_len written 0 256 b b [] h (zero-add b)) ∙ (ap (λ (l : List (List ℕ)). get_or l b []) same_pairs ∙ get_or-map-range_with_len pair 0 256 b b [] h (zero-add b))

encode_with-append : (t xs ys : List ℕ) → encode_with t (xs ++ ys) ≡ encode_with t xs ++ encode_with t ys
unfolding encode_with
encode_with-append t [] ys = refl
encode_with-append t (b ∷ xs) ys = ap (λ (l : List ℕ). get_or t (b / 16) 0 ∷ get_or t (b % 16) 0 ∷ l) (encode_with-append t xs ys)

pub one_more : (xs : List ℕ) (i : ℕ) → i < length xs → get_or xs i 0 < 256 → encode_lower (take i xs) ++ written (get_or xs i 0) ≡ encode_lower (take (i + 1) xs)
unfolding encode_with
one_more xs i h small =
    ap (λ (l : List ℕ). encode_lower (take i xs) ++ l) (same_pair (get_or xs i 0) small)
    ∙ sym (ap encode_lower (take_more xs i 0 h) ∙ encode_with-append lower_digits (take i xs) (get_or xs i 0 ∷ []))
