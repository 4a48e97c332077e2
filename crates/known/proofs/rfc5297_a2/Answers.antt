use Rattle.std.proofs.Common.{refl}
use Rattle.ciphers.specs.Gf256.{mul, s_box}
use Rattle.ciphers.specs.Fips197.{sub_bytes, shift_rows, mix_columns, add_round_key, next_word, expand, key_expansion, full_round, last_round, after, cipher_by, cipher}
use Rattle.ciphers.specs.Rfc4493.{dbl, subkey1, last_block, cmac}
use Rattle.ciphers.specs.Rfc5297.{xor_end, lastly}
use Rattle.known.proofs.rfc5297_a2.Goals as goal

pub returns : goal.returns
unfolding mul s_box sub_bytes shift_rows mix_columns add_round_key next_word expand key_expansion full_round last_round after cipher_by cipher dbl subkey1 last_block cmac xor_end lastly
returns c = refl
