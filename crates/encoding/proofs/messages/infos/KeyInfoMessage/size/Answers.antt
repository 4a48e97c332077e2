use Rattle.std.proofs.Common.{List, length, ap, arith}
use Rattle.std.proofs.lemmas.List.{append-nil}
use Rattle.encoding.specs.Wire.{Field, encode}
use Rattle.encoding.specs.Meanings.{key_info_fields}
use Rattle.encoding.specs.Views.{fields_of_key_info}
use Rattle.encoding.specs.Parts.{encode-length}
use Rattle.encoding.specs.KeyInfos.{piece1, piece2, piece3, piece4, tail1, tail2, tail3, sound}
use Rattle.encoding.proofs.messages.infos.KeyInfoMessage.size.Goals as goal

pub returns : goal.returns
unfolding key_info_fields fields_of_key_info
returns c =
    let r = c.args.self.now in
    omega (
      arith,
      c.saturating_add.ensures,
      c.saturating_add-2.ensures,
      c.saturating_add-numbers.ensures,
      c.size.ensures 2 (omega arith),
      c.size-2.ensures 3 (omega arith),
      c.size-3.ensures 4 (omega arith),
      c.size-4.ensures 1 (omega arith),
      encode-length (piece1 r) (tail1 r),
      encode-length (piece2 r) (tail2 r),
      encode-length (piece3 r) (tail3 r),
      ap (λ (fs : List Field). length (encode fs)) (append-nil (piece4 r)),
      (sound r).size,
    )
