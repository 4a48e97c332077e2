-- What a key made ready for SIV stands for.
use Rattle.std.specs.Prelude.{ℕ, List, ◌++◌}
use Rattle.ciphers.specs.declared.siv.Siv.{Siv}
use Rattle.ciphers.specs.Keys.{aes_key}
use Rattle.ciphers.specs.Tagging.{mac_key}

unfoldable pub siv_key : Siv → List ℕ
siv_key s = mac_key s.mac ++ aes_key s.ctr
