use Rattle.std.proofs.Common.{refl}
use Rattle.encoding.specs.Meanings.{key_info_fields}
use Rattle.encoding.specs.Views.{fields_of_key_info}
use Rattle.encoding.specs.Sorts.{text_empty}
use Rattle.encoding.proofs.messages.infos.KeyInfoMessage.empty.Goals as goal

pub returns : goal.returns
unfolding key_info_fields fields_of_key_info
returns c = text_empty 1 _ _ c.empty.ensures refl
