use Rattle.std.proofs.Common.{refl}
use Rattle.encoding.specs.Meanings.{key_fields}
use Rattle.encoding.specs.Views.{fields_of_key}
use Rattle.encoding.proofs.messages.keys.KeyMessage.empty.Goals as goal

pub returns : goal.returns
unfolding key_fields fields_of_key
returns c = refl
