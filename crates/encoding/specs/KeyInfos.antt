-- KeyInfo, by its four parts.
use Rattle.std.specs.Prelude.{◌≡◌, ◌^◌, ◌<◌, Bool, List, [], ◌++◌, refl}
use Rattle.std.proofs.Common.{arith, SFits}
use Rattle.std.specs.Int.{w32}
use Rattle.encoding.specs.Wire.{Field, encode}
use Rattle.encoding.specs.Members.{signed, text, unsigned}
use Rattle.encoding.specs.Known.{key_info_knows}
use Rattle.encoding.specs.Lists.{list}
use Rattle.encoding.specs.Meanings.{key_info_fields}
use Rattle.encoding.specs.Views.{key_info_view, fields_of_key_info, url_bytes}
use Rattle.encoding.specs.Messages.{Sound, Took, Filled}
use Rattle.encoding.specs.Scanning.{field_of, number_is}
use Rattle.encoding.specs.declared.content.Content.{Content}
use Rattle.encoding.specs.declared.records.KeyInfo.{KeyInfo}
use Rattle.encoding.specs.declared.url.TypeUrl.{TypeUrl}
use Rattle.encoding.specs.Fields.{encode_same}
use Rattle.encoding.specs.ListsLemmas.{list_length}
use Rattle.encoding.specs.Orders.{all_small}
use Rattle.encoding.specs.Shapes.{none, join, Level, first, rest, split}
use Rattle.encoding.specs.Sorts.{text-sound, text-told, signed-sound, signed-told, unsigned-sound, unsigned-told, one_byte}

abbrev pub piece1 : KeyInfo → List Field
piece1 r = text 1 (url_bytes r.type_url)

abbrev pub piece2 : KeyInfo → List Field
piece2 r = signed 2 r.status

abbrev pub piece3 : KeyInfo → List Field
piece3 r = unsigned 3 r.key_id

abbrev pub piece4 : KeyInfo → List Field
piece4 r = signed 4 r.output_prefix_type

abbrev pub tail3 : KeyInfo → List Field
tail3 r = piece4 r ++ []

abbrev pub tail2 : KeyInfo → List Field
tail2 r = piece3 r ++ tail3 r

abbrev pub tail1 : KeyInfo → List Field
tail1 r = piece2 r ++ tail2 r

part1 : (r : KeyInfo) → Sound key_info_knows 1 1 66 (piece1 r)
part1 r = text-sound key_info_knows 1 64 1 (url_bytes r.type_url) (omega arith) (omega arith) (λ b. refl) (omega arith) (omega (arith, list_length r.type_url.text, r.type_url.text.fits)) (one_byte (omega arith))

part2 : (r : KeyInfo) → Sound key_info_knows 2 2 11 (piece2 r)
part2 r = signed-sound key_info_knows 2 r.status (omega arith) (omega arith) (λ u. refl) r.status_width

part3 : (r : KeyInfo) → Sound key_info_knows 3 3 6 (piece3 r)
part3 r = unsigned-sound key_info_knows 3 r.key_id (omega arith) (omega arith) (λ u. refl) r.id_width

part4 : (r : KeyInfo) → Sound key_info_knows 4 4 11 (piece4 r)
part4 r = signed-sound key_info_knows 4 r.output_prefix_type (omega arith) (omega arith) (λ u. refl) r.prefix_width

from4 : (r : KeyInfo) → Sound key_info_knows 4 15 11 (tail3 r)
from4 r = join (omega arith) (part4 r) none

from3 : (r : KeyInfo) → Sound key_info_knows 3 15 17 (tail2 r)
from3 r = join (omega arith) (part3 r) (from4 r)

from2 : (r : KeyInfo) → Sound key_info_knows 2 15 28 (tail1 r)
from2 r = join (omega arith) (part2 r) (from3 r)

pub sound : (r : KeyInfo) → Sound key_info_knows 1 15 94 (fields_of_key_info r)
unfolding key_info_fields fields_of_key_info
sound r = join (omega arith) (part1 r) (from2 r)

level1 : Level key_info_knows 1 piece1 tail1
level1 = record { here = λ r. (part1 r).ordered; after = λ r. (from2 r).ordered }

level2 : Level key_info_knows 2 piece2 tail2
level2 = record { here = λ r. (part2 r).ordered; after = λ r. (from3 r).ordered }

level3 : Level key_info_knows 3 piece3 tail3
level3 = record { here = λ r. (part3 r).ordered; after = λ r. (from4 r).ordered }

level4 : Level key_info_knows 4 piece4 (λ r. [])
level4 = record { here = λ r. (part4 r).ordered; after = λ r. (none {K = key_info_knows} {lo = 5} {hi = 15}).ordered }

pub take1 : (b : Bool) (old new : KeyInfo) (x : Content) → tail1 new ≡ tail1 old →
    Filled (λ (u : TypeUrl). text 1 (list u.text)) (λ _. Unit {0}) b old.type_url new.type_url (field_of 1 x) → Took fields_of_key_info b old new (field_of 1 x)
unfolding key_info_fields fields_of_key_info
take1 b old new x s0 h =
    first level1 (λ (u : TypeUrl). text 1 (list u.text)) (λ _. Unit {0}) (λ r. r.type_url) (λ _. tt) (λ r. refl) b old new (field_of 1 x) (number_is 1 x) s0 h

pub take2 : (b : Bool) (old new : KeyInfo) (x : Content) → piece1 new ≡ piece1 old → tail2 new ≡ tail2 old →
    Filled (signed 2) (λ z. SFits w32 z) b old.status new.status (field_of 2 x) → Took fields_of_key_info b old new (field_of 2 x)
unfolding key_info_fields fields_of_key_info
take2 b old new x s0 s1 h =
    rest level1 b old new (field_of 2 x) (omega (arith, number_is 2 x)) s0 (
    first level2 (signed 2) (λ z. SFits w32 z) (λ r. r.status) (λ r. record { sfits = r.status_width }) (λ r. refl) b old new (field_of 2 x) (number_is 2 x) s1 h)

pub take3 : (b : Bool) (old new : KeyInfo) (x : Content) → piece1 new ≡ piece1 old → piece2 new ≡ piece2 old → tail3 new ≡ tail3 old →
    Filled (unsigned 3) (λ z. z < 2 ^ 32) b old.key_id new.key_id (field_of 3 x) → Took fields_of_key_info b old new (field_of 3 x)
unfolding key_info_fields fields_of_key_info
take3 b old new x s0 s1 s2 h =
    rest level1 b old new (field_of 3 x) (omega (arith, number_is 3 x)) s0 (
    rest level2 b old new (field_of 3 x) (omega (arith, number_is 3 x)) s1 (
    first level3 (unsigned 3) (λ z. z < 2 ^ 32) (λ r. r.key_id) (λ r. r.id_width) (λ r. refl) b old new (field_of 3 x) (number_is 3 x) s2 h))

pub take4 : (b : Bool) (old new : KeyInfo) (x : Content) → piece1 new ≡ piece1 old → piece2 new ≡ piece2 old → piece3 new ≡ piece3 old →
    Filled (signed 4) (λ z. SFits w32 z) b old.output_prefix_type new.output_prefix_type (field_of 4 x) → Took fields_of_key_info b old new (field_of 4 x)
unfolding key_info_fields fields_of_key_info
take4 b old new x s0 s1 s2 h =
    rest level1 b old new (field_of 4 x) (omega (arith, number_is 4 x)) s0 (
    rest level2 b old new (field_of 4 x) (omega (arith, number_is 4 x)) s1 (
    rest level3 b old new (field_of 4 x) (omega (arith, number_is 4 x)) s2 (
    first level4 (signed 4) (λ z. SFits w32 z) (λ r. r.output_prefix_type) (λ r. record { sfits = r.prefix_width }) (λ r. refl) b old new (field_of 4 x) (number_is 4 x) refl h)))

pub told : (r s : KeyInfo) → fields_of_key_info r ≡ fields_of_key_info s → key_info_view r ≡ key_info_view s
unfolding key_info_fields fields_of_key_info
told r s h =
    let e1 = split level1 r s h in
    let e2 = split level2 r s e1.1 in
    let e3 = split level3 r s e2.1 in
    let e4 = split level4 r s e3.1 in
    let m1 = text-told 1 (url_bytes r.type_url) (url_bytes s.type_url) e1.0 in
    let m2 = signed-told 2 r.status s.status r.status_width s.status_width e2.0 in
    let m3 = unsigned-told 3 r.key_id s.key_id e3.0 in
    let m4 = signed-told 4 r.output_prefix_type s.output_prefix_type r.prefix_width s.prefix_width e4.0 in
    cc

-- equal bytes, equal meanings
pub alike : (r s : KeyInfo) → encode (fields_of_key_info r) ≡ encode (fields_of_key_info s) → key_info_view r ≡ key_info_view s
alike r s e = told r s (encode_same (fields_of_key_info r) (fields_of_key_info s) (all_small key_info_knows 1 15 (fields_of_key_info r) (sound r).ordered) (all_small key_info_knows 1 15 (fields_of_key_info s) (sound s).ordered) e)
