-- What the keys that were made ready stand for.
use Rattle.std.specs.Prelude.{ℕ, List}
use Rattle.ciphers.specs.declared.aes.Aes128.{Aes128}
use Rattle.ciphers.specs.Fips197.{state_of}

-- the 16 bytes of an AES key
unfoldable pub aes_key : Aes128 → List ℕ
aes_key k = state_of k.words
