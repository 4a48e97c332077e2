use Rattle.std.proofs.Common.{refl}
use Rattle.ciphers.specs.Gf256.{mul, s_box}
use Rattle.ciphers.specs.Fips197.{sub_bytes, shift_rows, mix_columns, add_round_key, next_word, expand, key_expansion, full_round, last_round, after, cipher_by, cipher}
use Rattle.known.proofs.fips197_c1.Goals as goal

pub returns : goal.returns
unfolding mul s_box sub_bytes shift_rows mix_columns add_round_key next_word expand key_expansion full_round last_round after cipher_by cipher
returns c = refl
