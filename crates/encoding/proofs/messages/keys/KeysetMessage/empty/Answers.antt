use Rattle.std.proofs.Common.{ap}
use Rattle.encoding.specs.Meanings.{keyset_fields}
use Rattle.encoding.specs.Views.{fields_of_keyset}
use Rattle.encoding.proofs.messages.keys.KeysetMessage.empty.Goals as goal

pub returns : goal.returns
unfolding keyset_fields fields_of_keyset
returns c = ap keyset_fields c.new.ensures
