-- The plain cover: the length of the associated text in four bytes, and the plaintext as it is.
use Rattle.std.specs.Prelude.{ℕ, Bool, false, cond, List, ◌++◌, length, take, drop, Some, None, Option, ◌==◌, nat_lt}
use Rattle.ciphers.specs.Bytes.{number, word_bytes}

abbrev pub covered : List ℕ → List ℕ → List ℕ
covered text plain = word_bytes (length text) ++ plain

-- whether the four bytes are the text's length
abbrev pub agree : List ℕ → List ℕ → Bool
agree sealed text = cond (nat_lt (length sealed) 4) false (number (take 4 sealed) == length text)

abbrev pub uncovered : List ℕ → List ℕ → Option (List ℕ)
uncovered sealed text = cond (agree sealed text) (Some (drop 4 sealed)) None
