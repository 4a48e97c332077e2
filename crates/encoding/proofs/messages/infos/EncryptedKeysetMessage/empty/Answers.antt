use Rattle.std.proofs.Common.{refl}
use Rattle.encoding.specs.Meanings.{encrypted_keyset_fields}
use Rattle.encoding.specs.Views.{fields_of_encrypted_keyset}
use Rattle.encoding.specs.Sorts.{text_empty}
use Rattle.encoding.proofs.messages.infos.EncryptedKeysetMessage.empty.Goals as goal

pub returns : goal.returns
unfolding encrypted_keyset_fields fields_of_encrypted_keyset
returns c = text_empty 2 _ _ c.empty.ensures.items refl
