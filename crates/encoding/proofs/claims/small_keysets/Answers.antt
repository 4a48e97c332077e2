use Rattle.std.proofs.Common.{refl}
use Rattle.encoding.specs.Wire.{base128, encode_field, encode}
use Rattle.encoding.specs.Meanings.{keyset_fields, key_fields}
use Rattle.encoding.proofs.claims.small_keysets.Goals as goal

pub returns : goal.returns
unfolding base128 encode_field encode keyset_fields key_fields
returns c = (refl, refl)
