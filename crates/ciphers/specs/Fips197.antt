-- FIPS 197, section 5: the state, its four transformations, KEYEXPANSION and CIPHER for AES-128.
-- A word is the list of its four bytes; a state or a round key is the list of its 16 bytes, column after column.
use Rattle.std.specs.Prelude.{ℕ, zero, suc, ◌+◌, ◌-◌, ◌*◌, ◌/◌, ◌%◌, cond, List, [], ◌∷◌, ◌++◌, map, length, get_or, take, drop, ◌==◌, bit_xor, slice_index, slice_index_or}
use Rattle.std.specs.List.{range_with_len}
use Rattle.ciphers.specs.Bytes.{xors, word_bytes}
use Rattle.ciphers.specs.Gf256.{mul, s_box, x_times}

-- the byte of row r and column c
abbrev pub at : List ℕ → ℕ → ℕ → ℕ
at s r c = slice_index s (r + 4 * c)

-- the state that has f r c in row r and column c
abbrev pub state : (ℕ → ℕ → ℕ) → List ℕ
state f = map (λ i. f (i % 4) (i / 4)) (range_with_len 0 16)

unfoldable pub sub_bytes : List ℕ → List ℕ
sub_bytes s = map s_box s

unfoldable pub shift_rows : List ℕ → List ℕ
shift_rows s = state (λ r c. at s r ((c + r) % 4))

-- a column times the fixed matrix
abbrev pub mix_column : ℕ → ℕ → ℕ → ℕ → List ℕ
mix_column a b c d =
    bit_xor (bit_xor (bit_xor (mul 2 a) (mul 3 b)) c) d ∷
    bit_xor (bit_xor (bit_xor a (mul 2 b)) (mul 3 c)) d ∷
    bit_xor (bit_xor (bit_xor a b) (mul 2 c)) (mul 3 d) ∷
    bit_xor (bit_xor (bit_xor (mul 3 a) b) c) (mul 2 d) ∷ []

-- what the byte y in row r of a column gives to it: y times column r of the matrix
abbrev pub row_part : ℕ → ℕ → List ℕ
row_part zero y = mul 2 y ∷ y ∷ y ∷ mul 3 y ∷ []
row_part (suc zero) y = mul 3 y ∷ mul 2 y ∷ y ∷ y ∷ []
row_part (suc (suc zero)) y = y ∷ mul 3 y ∷ mul 2 y ∷ y ∷ []
row_part (suc (suc (suc r))) y = y ∷ y ∷ mul 3 y ∷ mul 2 y ∷ []

abbrev mixed_column : List ℕ → ℕ → List ℕ
mixed_column s c = mix_column (at s 0 c) (at s 1 c) (at s 2 c) (at s 3 c)

unfoldable pub mix_columns : List ℕ → List ℕ
mix_columns s = mixed_column s 0 ++ (mixed_column s 1 ++ (mixed_column s 2 ++ mixed_column s 3))

unfoldable pub add_round_key : List ℕ → List ℕ → List ℕ
add_round_key s k = xors s k

-- KEYEXPANSION
abbrev pub rot_word : List ℕ → List ℕ
rot_word w = drop 1 w ++ take 1 w

abbrev pub sub_word : List ℕ → List ℕ
sub_word w = map s_box w

-- the power of x to n, and Rcon[i]
abbrev pub x_power : ℕ → ℕ
x_power zero = 1
x_power (suc n) = x_times (x_power n)

abbrev pub rcon : ℕ → List ℕ
rcon i = x_power (i - 1) ∷ 0 ∷ 0 ∷ 0 ∷ []

-- w[i], where the words before it are w and i is their number
unfoldable pub next_word : List (List ℕ) → List ℕ
next_word w =
    let i = length w in
    let temp = get_or w (i - 1) [] in
    xors (slice_index_or w (i - 4) []) (cond (i % 4 == 0) (xors (sub_word (rot_word temp)) (rcon (i / 4))) temp)

-- n more words
unfoldable pub expand : ℕ → List (List ℕ) → List (List ℕ)
expand zero w = w
expand (suc n) w = let v = expand n w in v ++ (next_word v ∷ [])

abbrev pub key_words : List ℕ → List (List ℕ)
key_words key = take 4 key ∷ take 4 (drop 4 key) ∷ take 4 (drop 8 key) ∷ take 4 (drop 12 key) ∷ []

unfoldable pub key_expansion : List ℕ → List (List ℕ)
key_expansion key = expand 40 (key_words key)

-- w[4i] to w[4i+3]
abbrev pub round_key : List (List ℕ) → ℕ → List ℕ
round_key w i = slice_index_or w (4 * i) [] ++ (slice_index_or w (4 * i + 1) [] ++ (slice_index_or w (4 * i + 2) [] ++ slice_index_or w (4 * i + 3) []))

-- CIPHER: a round, the state after the first n rounds, and the last round, which has no MIXCOLUMNS
unfoldable pub full_round : List ℕ → List ℕ → List ℕ
full_round s k = add_round_key (mix_columns (shift_rows (sub_bytes s))) k

unfoldable pub last_round : List ℕ → List ℕ → List ℕ
last_round s k = add_round_key (shift_rows (sub_bytes s)) k

unfoldable pub after : List (List ℕ) → List ℕ → ℕ → List ℕ
after w s zero = s
after w s (suc n) = full_round (after w s n) (round_key w (suc n))

unfoldable pub cipher_by : List (List ℕ) → List ℕ → List ℕ
cipher_by w text = last_round (after w (add_round_key text (round_key w 0)) 9) (round_key w 10)

-- AES-128 of a block under a key
unfoldable pub cipher : List ℕ → List ℕ → List ℕ
cipher key text = cipher_by (key_expansion key) text

-- the 16 bytes of four words of 32 bits
unfoldable pub state_of : List ℕ → List ℕ
state_of ws = word_bytes (slice_index ws 0) ++ (word_bytes (slice_index ws 1) ++ (word_bytes (slice_index ws 2) ++ word_bytes (slice_index ws 3)))
