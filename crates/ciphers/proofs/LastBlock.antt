-- The last block of a message, whole or short.
use Rattle.std.proofs.Common.{◌≡◌, ℕ, ◌<◌, eqb, List, length, arith}
use Rattle.std.proofs.lemmas.Bool.{eq-eqb, ne_eqb, cond-true, cond-false}
use Rattle.ciphers.specs.Bytes.{xors}
use Rattle.ciphers.specs.Rfc4493.{Cipher, padded, subkey1, subkey2, last_block}

pub last_whole : (E : Cipher) (m : List ℕ) → length m ≡ 16 → last_block E m ≡ xors m (subkey1 E)
unfolding last_block
last_whole E m l = cond-true (eqb (length m) 16) _ _ (eq-eqb (length m) 16 l)

pub last_short : (E : Cipher) (m : List ℕ) → length m < 16 → last_block E m ≡ xors (padded m) (subkey2 E)
unfolding last_block
last_short E m lt = cond-false (eqb (length m) 16) _ _ (ne_eqb (length m) 16 (λ e. omega arith))
