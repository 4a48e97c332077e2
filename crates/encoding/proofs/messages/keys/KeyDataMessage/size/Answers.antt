use Rattle.std.proofs.Common.{List, length, ap, arith}
use Rattle.std.proofs.lemmas.List.{append-nil}
use Rattle.encoding.specs.Wire.{Field, encode}
use Rattle.encoding.specs.Meanings.{key_data_fields}
use Rattle.encoding.specs.Views.{fields_of_key_data}
use Rattle.encoding.specs.Parts.{encode-length}
use Rattle.encoding.specs.Texts.{piece1, piece2, piece3, tail1, tail2}
use Rattle.encoding.specs.KeyDatas.{sound, three}
use Rattle.encoding.proofs.messages.keys.KeyDataMessage.size.Goals as goal

pub returns : goal.returns
unfolding key_data_fields fields_of_key_data
returns c =
    let r = c.args.self.now in
    omega (
      arith,
      c.saturating_add.ensures,
      c.saturating_add-2.ensures,
      c.size.ensures 1 (omega arith),
      c.size-2.ensures 2 (omega arith),
      c.size-3.ensures 3 (omega arith),
      encode-length (piece1 three r) (tail1 three r),
      encode-length (piece2 three r) (tail2 three r),
      ap (λ (fs : List Field). length (encode fs)) (append-nil (piece3 three r)),
      (sound r).size,
    )
