use Rattle.std.proofs.Common.{ap, arith}
use Rattle.encoding.specs.Wire.{encode}
use Rattle.encoding.specs.Meanings.{key_fields, key_data_fields}
use Rattle.encoding.specs.Views.{fields_of_key, fields_of_key_data, key_data_view}
use Rattle.encoding.specs.Layings.{laid_as, laid-room}
use Rattle.encoding.specs.Sorts.{present_view}
use Rattle.encoding.specs.Parts.{both, alone}
use Rattle.encoding.specs.Keys.{piece1, piece2, piece3, piece4, tail1, tail2, tail3}
use Rattle.encoding.proofs.messages.keys.KeyMessage.put.Goals as goal

pub returns : goal.returns
unfolding key_fields fields_of_key fields_of_key_data
returns c =
    let r = c.args.self.now in
    both (piece1 r) (tail1 r) _ _ _ (omega arith) (laid_as _ _ _ _ (ap encode (present_view key_data_fields key_data_view 1 r.key_data)) c.put.ensures)
    (both (piece2 r) (tail2 r) _ _ _ (laid-room _ _ _ (omega arith) c.put.ensures) c.put-2.ensures
    (both (piece3 r) (tail3 r) _ _ _ (laid-room _ _ _ (laid-room _ _ _ (omega arith) c.put.ensures) c.put-2.ensures) c.put-3.ensures
    (alone (piece4 r) _ _ c.put-4.ensures)))
