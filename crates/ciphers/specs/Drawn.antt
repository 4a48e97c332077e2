-- What a draw answers and leaves, of the words left in a source.
use Rattle.std.specs.Prelude.{ℕ, List, [], ◌∷◌, map, take, Ok, Err, Result}
use Rattle.std.specs.List.{range_with_len}
use Rattle.ciphers.specs.declared.fault.Fault.{Fault}
use Rattle.ciphers.specs.declared.fault.Layer.TheVariants.{Draws}
use Rattle.ciphers.specs.declared.fault.Refusal.TheVariants.{NoWordLeft}
use Rattle.ciphers.specs.Bytes.{number, bytes}
use Rattle.ciphers.specs.Faults.{fault}
use Rattle.ciphers.specs.Rfc4493.{Cipher}

abbrev pub first_word : List ℕ → Result ℕ Fault
first_word [] = Err (fault NoWordLeft Draws)
first_word (w ∷ ws) = Ok w

abbrev pub other_words : List ℕ → List ℕ
other_words [] = []
other_words (w ∷ ws) = ws

-- word n under a block cipher: the first four bytes of the block that it makes of n
unfoldable pub cipher_word : Cipher → ℕ → ℕ
cipher_word E n = number (take 4 (E (bytes 16 n)))

-- so many words, from word n on
abbrev pub cipher_words : Cipher → ℕ → ℕ → List ℕ
cipher_words E n count = map (cipher_word E) (range_with_len n count)
