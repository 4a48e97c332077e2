-- Hexadecimal digits, by their ASCII codes, and what rows of them stand for.
use Rattle.std.specs.Prelude.{◌≡◌, ℕ, ◌+◌, ◌-◌, ◌*◌, ◌%◌, Bool, cond, List, [], ◌∷◌, length, Some, None, Option, ◌⊎◌, nat_lt, codes}
use Rattle.std.specs.List.{AllPass}
use Rattle.std.specs.Option.{is_some, unwrap_or}
use Rattle.hex.specs.Hex.{encode_lower}

-- 0 to 9, and a to f in small letters
abbrev pub digit_of : ℕ → Option ℕ
digit_of c =
    cond (nat_lt c 48) None (cond (nat_lt c 58) (Some (c - 48)) (cond (nat_lt c 97) None (cond (nat_lt c 103) (Some (c - 87)) None)))

abbrev pub is_digit : ℕ → Bool
is_digit c = is_some (digit_of c)

-- the byte of two digits, the higher first
abbrev pub join : Option ℕ → Option ℕ → Option ℕ
join None low = None
join (Some h) None = None
join (Some h) (Some l) = Some (16 * h + l)

-- the bytes of a text of digits, two by two
abbrev pub bytes_of : List ℕ → List ℕ
bytes_of [] = []
bytes_of (h ∷ []) = []
bytes_of (h ∷ l ∷ rest) = unwrap_or (join (digit_of h) (digit_of l)) 0 ∷ bytes_of rest

-- `-`, or an even number of digits
abbrev pub IsRow : List ℕ → Type 0
IsRow text = (text ≡ codes "-") ⊎ ((length text % 2 ≡ 0) × AllPass is_digit text)

-- the text of a row
abbrev pub row_text : List ℕ → List ℕ
row_text [] = codes "-"
row_text (b ∷ rest) = encode_lower (b ∷ rest)
