-- KeysetInfo, by its two parts.
use Rattle.std.specs.Prelude.{◌≡◌, ◌^◌, ◌<◌, Bool, List, [], ◌++◌, map, refl}
use Rattle.std.proofs.Common.{sym, ◌∙◌, arith}
use Rattle.encoding.specs.Wire.{Field, encode}
use Rattle.encoding.specs.Members.{each, unsigned}
use Rattle.encoding.specs.Known.{keyset_info_knows}
use Rattle.encoding.specs.Lists.{list}
use Rattle.encoding.specs.Meanings.{keyset_info_fields, key_info_fields}
use Rattle.encoding.specs.Views.{keyset_info_view, fields_of_keyset_info, key_info_view, fields_of_key_info}
use Rattle.encoding.specs.Messages.{Sound, Took, Filled}
use Rattle.encoding.specs.Scanning.{field_of, number_is}
use Rattle.encoding.specs.declared.content.Content.{Content}
use Rattle.encoding.specs.declared.records.KeysetInfo.{KeysetInfo}
use Rattle.encoding.specs.declared.bounded.Bounded.{Bounded}
use Rattle.encoding.specs.declared.records.KeyInfo.{KeyInfo}
use Rattle.encoding.specs.Fields.{encode_same}
use Rattle.encoding.specs.ListsLemmas.{list_length}
use Rattle.encoding.specs.Orders.{all_small}
use Rattle.encoding.specs.Shapes.{none, join, Level, first, rest, split}
use Rattle.encoding.specs.Sorts.{unsigned-sound, unsigned-told, each-sound, each-told, each_view, sound_as, within-size, one_byte}
use Rattle.encoding.specs.KeyInfos.{sound as inner_sound, alike as inner_alike}

abbrev pub piece1 : KeysetInfo → List Field
piece1 r = unsigned 1 r.primary_key_id

abbrev pub piece2 : KeysetInfo → List Field
piece2 r = each key_info_fields 2 (map key_info_view (list r.key_info))

abbrev pub tail1 : KeysetInfo → List Field
tail1 r = piece2 r ++ []

part1 : (r : KeysetInfo) → Sound keyset_info_knows 1 1 6 (piece1 r)
part1 r = unsigned-sound keyset_info_knows 1 r.primary_key_id (omega arith) (omega arith) (λ u. refl) r.id_width

part2 : (r : KeysetInfo) → Sound keyset_info_knows 2 2 1536 (piece2 r)
unfolding fields_of_key_info
part2 r = sound_as (each_view key_info_fields key_info_view 2 (list r.key_info))
    (within-size 1536 (omega (arith, list_length r.key_info, r.key_info.fits)) (each-sound keyset_info_knows 2 94 1 fields_of_key_info (list r.key_info) (omega arith) (omega arith) (λ b. refl) (omega arith) (λ i. (inner_sound i).size) (one_byte (omega arith))))

from2 : (r : KeysetInfo) → Sound keyset_info_knows 2 15 1536 (tail1 r)
from2 r = join (omega arith) (part2 r) none

pub sound : (r : KeysetInfo) → Sound keyset_info_knows 1 15 1542 (fields_of_keyset_info r)
unfolding keyset_info_fields fields_of_keyset_info
sound r = join (omega arith) (part1 r) (from2 r)

level1 : Level keyset_info_knows 1 piece1 tail1
level1 = record { here = λ r. (part1 r).ordered; after = λ r. (from2 r).ordered }

level2 : Level keyset_info_knows 2 piece2 (λ r. [])
level2 = record { here = λ r. (part2 r).ordered; after = λ r. (none {K = keyset_info_knows} {lo = 3} {hi = 15}).ordered }

pub take1 : (b : Bool) (old new : KeysetInfo) (x : Content) → tail1 new ≡ tail1 old →
    Filled (unsigned 1) (λ z. z < 2 ^ 32) b old.primary_key_id new.primary_key_id (field_of 1 x) → Took fields_of_keyset_info b old new (field_of 1 x)
unfolding keyset_info_fields fields_of_keyset_info
take1 b old new x s0 h =
    first level1 (unsigned 1) (λ z. z < 2 ^ 32) (λ r. r.primary_key_id) (λ r. r.id_width) (λ r. refl) b old new (field_of 1 x) (number_is 1 x) s0 h

pub take2 : (b : Bool) (old new : KeysetInfo) (x : Content) → piece1 new ≡ piece1 old →
    Filled (λ (b : Bounded KeyInfo 16). each fields_of_key_info 2 (list b)) (λ _. Unit {0}) b old.key_info new.key_info (field_of 2 x) → Took fields_of_keyset_info b old new (field_of 2 x)
unfolding keyset_info_fields fields_of_keyset_info fields_of_key_info
take2 b old new x s0 h =
    rest level1 b old new (field_of 2 x) (omega (arith, number_is 2 x)) s0 (
    first level2 (λ (b : Bounded KeyInfo 16). each fields_of_key_info 2 (list b)) (λ _. Unit {0}) (λ r. r.key_info) (λ _. tt) (λ r. each_view key_info_fields key_info_view 2 (list r.key_info)) b old new (field_of 2 x) (number_is 2 x) refl h)

pub told : (r s : KeysetInfo) → fields_of_keyset_info r ≡ fields_of_keyset_info s → keyset_info_view r ≡ keyset_info_view s
unfolding keyset_info_fields fields_of_keyset_info fields_of_key_info
told r s h =
    let e1 = split level1 r s h in
    let e2 = split level2 r s e1.1 in
    let m1 = unsigned-told 1 r.primary_key_id s.primary_key_id e1.0 in
    let m2 = each-told fields_of_key_info key_info_view inner_alike 2 (list r.key_info) (list s.key_info) (each_view key_info_fields key_info_view 2 (list r.key_info) ∙ e2.0 ∙ sym (each_view key_info_fields key_info_view 2 (list s.key_info))) in
    cc

-- equal bytes, equal meanings
pub alike : (r s : KeysetInfo) → encode (fields_of_keyset_info r) ≡ encode (fields_of_keyset_info s) → keyset_info_view r ≡ keyset_info_view s
alike r s e = told r s (encode_same (fields_of_keyset_info r) (fields_of_keyset_info s) (all_small keyset_info_knows 1 15 (fields_of_keyset_info r) (sound r).ordered) (all_small keyset_info_knows 1 15 (fields_of_keyset_info s) (sound s).ordered) e)
