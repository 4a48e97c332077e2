use Rattle.encoding.specs.Meanings.{keyset_info_fields, key_info_fields}
use Rattle.encoding.specs.Views.{fields_of_keyset_info, key_info_view}
use Rattle.encoding.specs.Sorts.{each_empty}
use Rattle.encoding.proofs.messages.infos.KeysetInfoMessage.empty.Goals as goal

pub returns : goal.returns
unfolding keyset_info_fields fields_of_keyset_info
returns c = each_empty key_info_fields key_info_view 2 _ c.empty-2.ensures.items
