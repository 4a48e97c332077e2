use Rattle.std.proofs.Common.{arith}
use Rattle.encoding.specs.Meanings.{key_info_fields}
use Rattle.encoding.specs.Views.{fields_of_key_info}
use Rattle.encoding.specs.Layings.{laid-room}
use Rattle.encoding.specs.Parts.{both, alone}
use Rattle.encoding.specs.KeyInfos.{piece1, piece2, piece3, piece4, tail1, tail2, tail3}
use Rattle.encoding.proofs.messages.infos.KeyInfoMessage.put.Goals as goal

pub returns : goal.returns
unfolding key_info_fields fields_of_key_info
returns c =
    let r = c.args.self.now in
    both (piece1 r) (tail1 r) _ _ _ (omega arith) c.put.ensures
    (both (piece2 r) (tail2 r) _ _ _ (laid-room _ _ _ (omega arith) c.put.ensures) c.put-2.ensures
    (both (piece3 r) (tail3 r) _ _ _ (laid-room _ _ _ (laid-room _ _ _ (omega arith) c.put.ensures) c.put-2.ensures) c.put-3.ensures
    (alone (piece4 r) _ _ c.put-4.ensures)))
