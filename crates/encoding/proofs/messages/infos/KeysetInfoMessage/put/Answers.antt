use Rattle.std.proofs.Common.{ap, arith}
use Rattle.encoding.specs.Wire.{encode}
use Rattle.encoding.specs.Meanings.{keyset_info_fields, key_info_fields}
use Rattle.encoding.specs.Views.{fields_of_keyset_info, fields_of_key_info, key_info_view}
use Rattle.encoding.specs.Lists.{list}
use Rattle.encoding.specs.Layings.{laid_as}
use Rattle.encoding.specs.Sorts.{each_view}
use Rattle.encoding.specs.Parts.{both, alone}
use Rattle.encoding.specs.KeysetInfos.{piece1, piece2, tail1}
use Rattle.encoding.proofs.messages.infos.KeysetInfoMessage.put.Goals as goal

pub returns : goal.returns
unfolding keyset_info_fields fields_of_keyset_info fields_of_key_info
returns c =
    let r = c.args.self.now in
    both (piece1 r) (tail1 r) _ _ _ (omega arith) c.put.ensures
    (alone (piece2 r) _ _ (laid_as _ _ _ _ (ap encode (each_view key_info_fields key_info_view 2 (list r.key_info))) c.put-2.ensures))
