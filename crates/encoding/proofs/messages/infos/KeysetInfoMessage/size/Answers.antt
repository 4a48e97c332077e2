use Rattle.std.proofs.Common.{List, length, ap, arith}
use Rattle.std.proofs.lemmas.List.{append-nil}
use Rattle.encoding.specs.Wire.{Field, encode}
use Rattle.encoding.specs.Meanings.{keyset_info_fields, key_info_fields}
use Rattle.encoding.specs.Views.{fields_of_keyset_info, fields_of_key_info, key_info_view}
use Rattle.encoding.specs.Lists.{list}
use Rattle.encoding.specs.Sorts.{each_view}
use Rattle.encoding.specs.Parts.{encode-length}
use Rattle.encoding.specs.KeysetInfos.{piece1, piece2, tail1, sound}
use Rattle.encoding.proofs.messages.infos.KeysetInfoMessage.size.Goals as goal

pub returns : goal.returns
unfolding keyset_info_fields fields_of_keyset_info fields_of_key_info
returns c =
    let r = c.args.self.now in
    omega (
      arith,
      c.saturating_add.ensures,
      c.size.ensures 1 (omega arith),
      c.size-2.ensures 2 (omega arith),
      ap (λ (fs : List Field). length (encode fs)) (each_view key_info_fields key_info_view 2 (list r.key_info)),
      encode-length (piece1 r) (tail1 r),
      ap (λ (fs : List Field). length (encode fs)) (append-nil (piece2 r)),
      (sound r).size,
    )
