use Rattle.std.proofs.Common.{arith}
use Rattle.encoding.specs.Meanings.{key_data_fields}
use Rattle.encoding.specs.Views.{fields_of_key_data}
use Rattle.encoding.specs.Layings.{laid-room}
use Rattle.encoding.specs.Parts.{both, alone}
use Rattle.encoding.specs.Texts.{piece1, piece2, piece3, tail1, tail2}
use Rattle.encoding.specs.KeyDatas.{three}
use Rattle.encoding.proofs.messages.keys.KeyDataMessage.put.Goals as goal

pub returns : goal.returns
unfolding key_data_fields fields_of_key_data
returns c =
    let r = c.args.self.now in
    both (piece1 three r) (tail1 three r) _ _ _ (omega arith) c.put.ensures
    (both (piece2 three r) (tail2 three r) _ _ _ (laid-room _ _ _ (omega arith) c.put.ensures) c.put-2.ensures
    (alone (piece3 three r) _ _ c.put-3.ensures))
