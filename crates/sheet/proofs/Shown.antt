-- Hexadecimal text as the library `hex` encodes it, and that it tells bytes apart.
use Rattle.std.proofs.Common.{◌≡◌, ℕ, suc, ◌/◌, ◌%◌, ◌<◌, List, [], ◌∷◌, get_or, map, refl, sym, ap, ◌∙◌, arith, zero-add}
use Rattle.std.specs.List.{range_with_len}
use Rattle.std.proofs.lemmas.List.FromFn.{get_or-map-range_with_len}
use Rattle.std.proofs.lemmas.Bool.Decides.{nat_tests}
use Rattle.hex.specs.Hex.{lower_digits, encode_lower, encode_with}
use Rattle.sheet.specs.Hex.{digit_code, hex_codes, Bytes, TellsBytes}

abbrev table_digit : ℕ → ℕ
table_digit n = get_or lower_digits n 0

same_table : map table_digit (range_with_len 0 16) ≡ map digit_code (range_with_len 0 16)
same_table = refl

table_digit_is : (n : ℕ) → n < 16 → table_digit n ≡ digit_code n
table_digit_is n h =
    sym (get_or-map-range_with_len table_digit 0 16 n n 0 h (zero-add n)) ∙ (ap (λ (l : List ℕ). get_or l n 0) same_table ∙ get_or-map-range_with_len digit_code 0 16 n n 0 h (zero-add n))

pub encoded : (xs : List ℕ) → Bytes xs → encode_lower xs ≡ hex_codes xs
unfolding encode_with
encoded [] h = refl
encoded (b ∷ xs) h =
    let small : b < 256 = h 0 in
    let high = table_digit_is (b / 16) (omega arith) in
    let low = table_digit_is (b % 16) (omega arith) in
    let rest = encoded xs (λ k. h (suc k)) in
    (λ i. high i ∷ low i ∷ rest i)

same_digit : (m n : ℕ) → m < 16 → n < 16 → digit_code m ≡ digit_code n → m ≡ n
same_digit m n hm hn e = grind (arith, nat_tests)

pub tells_bytes : TellsBytes
tells_bytes [] [] hx hy e = refl
tells_bytes [] (y ∷ ys) hx hy e = let z : ◌≡◌ {A = ℕ} 0 1 = cc in absurd (omega arith)
tells_bytes (x ∷ xs) [] hx hy e = let z : ◌≡◌ {A = ℕ} 0 1 = cc in absurd (omega arith)
tells_bytes (x ∷ xs) (y ∷ ys) hx hy e =
    let bx : x < 256 = hx 0 in
    let by : y < 256 = hy 0 in
    let high : digit_code (x / 16) ≡ digit_code (y / 16) = cc in
    let low : digit_code (x % 16) ≡ digit_code (y % 16) = cc in
    let rest : hex_codes xs ≡ hex_codes ys = cc in
    let h = same_digit (x / 16) (y / 16) (omega arith) (omega arith) high in
    let l = same_digit (x % 16) (y % 16) (omega arith) (omega arith) low in
    let first : x ≡ y = omega arith in
    ap (λ (b : ℕ). b ∷ xs) first ∙ ap (λ (t : List ℕ). y ∷ t) (tells_bytes xs ys (λ k. hx (suc k)) (λ k. hy (suc k)) rest)
