-- Bytes as text: two lower-case hexadecimal digits for each.
use Rattle.std.specs.Prelude.{◌≡◌, ℕ, ◌+◌, ◌/◌, ◌%◌, ◌<◌, cond, List, [], ◌∷◌, ◌++◌, nat_lt, slice_index}

-- the code of a digit: from 48 for 0, from 97 for a
abbrev pub digit_code : ℕ → ℕ
digit_code n = cond (nat_lt n 10) (48 + n) (87 + n)

abbrev pub byte_codes : ℕ → List ℕ
byte_codes b = digit_code (b / 16) ∷ digit_code (b % 16) ∷ []

abbrev pub hex_codes : List ℕ → List ℕ
hex_codes [] = []
hex_codes (b ∷ bs) = byte_codes b ++ hex_codes bs

-- bytes that are shown alike are the same
abbrev pub Bytes : List ℕ → Type 0
Bytes bs = (k : ℕ) → slice_index bs k < 256

abbrev pub TellsBytes : Type 0
TellsBytes = (xs ys : List ℕ) → Bytes xs → Bytes ys → hex_codes xs ≡ hex_codes ys → xs ≡ ys
