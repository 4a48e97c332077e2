use Rattle.std.proofs.Common.{ap, arith}
use Rattle.encoding.specs.Wire.{encode}
use Rattle.encoding.specs.Meanings.{encrypted_keyset_fields, keyset_info_fields}
use Rattle.encoding.specs.Views.{fields_of_encrypted_keyset, fields_of_keyset_info, keyset_info_view}
use Rattle.encoding.specs.Layings.{laid_as}
use Rattle.encoding.specs.Sorts.{present_view}
use Rattle.encoding.specs.Parts.{both, alone}
use Rattle.encoding.specs.EncryptedKeysets.{piece2, piece3, tail2}
use Rattle.encoding.proofs.messages.infos.EncryptedKeysetMessage.put.Goals as goal

pub returns : goal.returns
unfolding encrypted_keyset_fields fields_of_encrypted_keyset fields_of_keyset_info
returns c =
    let r = c.args.self.now in
    both (piece2 r) (tail2 r) _ _ _ (omega arith) c.put.ensures
    (alone (piece3 r) _ _ (laid_as _ _ _ _ (ap encode (present_view keyset_info_fields keyset_info_view 3 r.keyset_info)) c.put-2.ensures))
