-- The words left in a source of words by AES.
use Rattle.std.specs.Prelude.{ℕ, ◌-◌, List}
use Rattle.ciphers.specs.declared.draws.CipherWords.{CipherWords}
use Rattle.ciphers.specs.Drawn.{cipher_words}
use Rattle.ciphers.specs.Fips197.{cipher}
use Rattle.ciphers.specs.Keys.{aes_key}

abbrev pub words_left : CipherWords → List ℕ
words_left s = cipher_words (cipher (aes_key s.aes)) s.next (s.end - s.next)
