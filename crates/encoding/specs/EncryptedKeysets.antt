-- EncryptedKeyset, by its two parts.
use Rattle.std.specs.Prelude.{◌≡◌, Bool, List, [], ◌++◌, refl}
use Rattle.std.proofs.Common.{sym, ◌∙◌, arith}
use Rattle.std.specs.Option.{option_map}
use Rattle.encoding.specs.Wire.{Field, encode}
use Rattle.encoding.specs.Members.{present, text}
use Rattle.encoding.specs.Known.{encrypted_keyset_knows}
use Rattle.encoding.specs.Lists.{list}
use Rattle.encoding.specs.Meanings.{encrypted_keyset_fields, keyset_info_fields}
use Rattle.encoding.specs.Views.{encrypted_keyset_view, fields_of_encrypted_keyset, keyset_info_view, fields_of_keyset_info}
use Rattle.encoding.specs.Messages.{Sound, Took, Filled}
use Rattle.encoding.specs.Scanning.{field_of, number_is}
use Rattle.encoding.specs.declared.content.Content.{Content}
use Rattle.encoding.specs.declared.records.EncryptedKeyset.{EncryptedKeyset}
use Rattle.encoding.specs.Fields.{encode_same}
use Rattle.encoding.specs.ListsLemmas.{list_length}
use Rattle.encoding.specs.Orders.{all_small}
use Rattle.encoding.specs.Shapes.{none, join, Level, first, rest, split, from_one}
use Rattle.encoding.specs.Sorts.{text-sound, text-told, present-sound, present-told, present_view, sound_as, two_bytes}
use Rattle.encoding.specs.KeysetInfos.{sound as inner_sound, alike as inner_alike}

abbrev pub piece2 : EncryptedKeyset → List Field
piece2 r = text 2 (list r.encrypted_keyset)

abbrev pub piece3 : EncryptedKeyset → List Field
piece3 r = present keyset_info_fields 3 (option_map keyset_info_view r.keyset_info)

abbrev pub tail2 : EncryptedKeyset → List Field
tail2 r = piece3 r ++ []

part2 : (r : EncryptedKeyset) → Sound encrypted_keyset_knows 2 2 4163 (piece2 r)
part2 r = text-sound encrypted_keyset_knows 2 4160 2 (list r.encrypted_keyset) (omega arith) (omega arith) (λ b. refl) (omega arith) (omega (arith, list_length r.encrypted_keyset, r.encrypted_keyset.fits)) (two_bytes (omega arith))

part3 : (r : EncryptedKeyset) → Sound encrypted_keyset_knows 3 3 1545 (piece3 r)
unfolding fields_of_keyset_info
part3 r = sound_as (present_view keyset_info_fields keyset_info_view 3 r.keyset_info) (present-sound encrypted_keyset_knows 3 1542 2 fields_of_keyset_info r.keyset_info (omega arith) (omega arith) (λ b. refl) (omega arith) (λ i. (inner_sound i).size) (two_bytes (omega arith)))

from3 : (r : EncryptedKeyset) → Sound encrypted_keyset_knows 3 15 1545 (tail2 r)
from3 r = join (omega arith) (part3 r) none

pub sound : (r : EncryptedKeyset) → Sound encrypted_keyset_knows 1 15 5708 (fields_of_encrypted_keyset r)
unfolding encrypted_keyset_fields fields_of_encrypted_keyset
sound r = from_one (omega arith) (join (omega arith) (part2 r) (from3 r))

level2 : Level encrypted_keyset_knows 2 piece2 tail2
level2 = record { here = λ r. (part2 r).ordered; after = λ r. (from3 r).ordered }

level3 : Level encrypted_keyset_knows 3 piece3 (λ r. [])
level3 = record { here = λ r. (part3 r).ordered; after = λ r. (none {K = encrypted_keyset_knows} {lo = 4} {hi = 15}).ordered }

pub take2 : (b : Bool) (old new : EncryptedKeyset) (x : Content) → tail2 new ≡ tail2 old →
    Filled (λ b. text 2 (list b)) (λ _. Unit {0}) b old.encrypted_keyset new.encrypted_keyset (field_of 2 x) → Took fields_of_encrypted_keyset b old new (field_of 2 x)
unfolding encrypted_keyset_fields fields_of_encrypted_keyset
take2 b old new x s0 h =
    first level2 (λ b. text 2 (list b)) (λ _. Unit {0}) (λ r. r.encrypted_keyset) (λ _. tt) (λ r. refl) b old new (field_of 2 x) (number_is 2 x) s0 h

pub take3 : (b : Bool) (old new : EncryptedKeyset) (x : Content) → piece2 new ≡ piece2 old →
    Filled (present fields_of_keyset_info 3) (λ _. Unit {0}) b old.keyset_info new.keyset_info (field_of 3 x) → Took fields_of_encrypted_keyset b old new (field_of 3 x)
unfolding encrypted_keyset_fields fields_of_encrypted_keyset fields_of_keyset_info
take3 b old new x s0 h =
    rest level2 b old new (field_of 3 x) (omega (arith, number_is 3 x)) s0 (
    first level3 (present fields_of_keyset_info 3) (λ _. Unit {0}) (λ r. r.keyset_info) (λ _. tt) (λ r. present_view keyset_info_fields keyset_info_view 3 r.keyset_info) b old new (field_of 3 x) (number_is 3 x) refl h)

pub told : (r s : EncryptedKeyset) → fields_of_encrypted_keyset r ≡ fields_of_encrypted_keyset s → encrypted_keyset_view r ≡ encrypted_keyset_view s
unfolding encrypted_keyset_fields fields_of_encrypted_keyset fields_of_keyset_info
told r s h =
    let e2 = split level2 r s h in
    let e3 = split level3 r s e2.1 in
    let m2 = text-told 2 (list r.encrypted_keyset) (list s.encrypted_keyset) e2.0 in
    let m3 = present-told fields_of_keyset_info keyset_info_view inner_alike 3 r.keyset_info s.keyset_info (present_view keyset_info_fields keyset_info_view 3 r.keyset_info ∙ e3.0 ∙ sym (present_view keyset_info_fields keyset_info_view 3 s.keyset_info)) in
    cc

-- equal bytes, equal meanings
pub alike : (r s : EncryptedKeyset) → encode (fields_of_encrypted_keyset r) ≡ encode (fields_of_encrypted_keyset s) → encrypted_keyset_view r ≡ encrypted_keyset_view s
alike r s e = told r s (encode_same (fields_of_encrypted_keyset r) (fields_of_encrypted_keyset s) (all_small encrypted_keyset_knows 1 15 (fields_of_encrypted_keyset r) (sound r).ordered) (all_small encrypted_keyset_knows 1 15 (fields_of_encrypted_keyset s) (sound s).ordered) e)
