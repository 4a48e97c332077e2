use Rattle.std.proofs.Common.{List, length, ap, arith}
use Rattle.std.proofs.lemmas.List.{append-nil}
use Rattle.encoding.specs.Wire.{Field, encode}
use Rattle.encoding.specs.Meanings.{encrypted_keyset_fields, keyset_info_fields}
use Rattle.encoding.specs.Views.{fields_of_encrypted_keyset, fields_of_keyset_info, keyset_info_view}
use Rattle.encoding.specs.Sorts.{present_view}
use Rattle.encoding.specs.Parts.{encode-length}
use Rattle.encoding.specs.EncryptedKeysets.{piece2, piece3, tail2, sound}
use Rattle.encoding.proofs.messages.infos.EncryptedKeysetMessage.size.Goals as goal

pub returns : goal.returns
unfolding encrypted_keyset_fields fields_of_encrypted_keyset fields_of_keyset_info
returns c =
    let r = c.args.self.now in
    omega (
      arith,
      c.saturating_add.ensures,
      c.size.ensures 2 (omega arith),
      c.size-2.ensures 3 (omega arith),
      ap (λ (fs : List Field). length (encode fs)) (present_view keyset_info_fields keyset_info_view 3 r.keyset_info),
      encode-length (piece2 r) (tail2 r),
      ap (λ (fs : List Field). length (encode fs)) (append-nil (piece3 r)),
      (sound r).size,
    )
