use Rattle.std.proofs.Common.{refl}
use Rattle.encoding.specs.Meanings.{key_data_fields}
use Rattle.encoding.specs.Views.{fields_of_key_data}
use Rattle.encoding.specs.Sorts.{text_empty}
use Rattle.encoding.proofs.messages.keys.KeyDataMessage.empty.Goals as goal

pub returns : goal.returns
unfolding key_data_fields fields_of_key_data
returns c = text_empty 1 _ _ c.empty.ensures (text_empty 2 _ _ c.empty-2.ensures.items refl)
