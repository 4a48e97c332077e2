use Rattle.std.proofs.Common.{refl}
use Rattle.ciphers.specs.Gf256.{mul, s_box}
use Rattle.ciphers.specs.Fips197.{sub_bytes, shift_rows, mix_columns, add_round_key, next_word, expand, key_expansion, full_round, last_round, after, cipher_by, cipher}
use Rattle.ciphers.specs.Rfc4493.{dbl, subkey1}
use Rattle.known.proofs.rfc4493_subkeys.Goals as goal

pub returns : goal.returns
unfolding mul s_box sub_bytes shift_rows mix_columns add_round_key next_word expand key_expansion full_round last_round after cipher_by cipher dbl subkey1
returns c = record { first = refl; second = refl }
