-- Key, by its four parts.
use Rattle.std.specs.Prelude.{◌≡◌, ◌^◌, ◌<◌, Bool, List, [], ◌++◌, refl}
use Rattle.std.proofs.Common.{sym, ◌∙◌, arith, SFits}
use Rattle.std.specs.Int.{w32}
use Rattle.std.specs.Option.{option_map}
use Rattle.encoding.specs.Wire.{Field, encode}
use Rattle.encoding.specs.Members.{present, signed, unsigned}
use Rattle.encoding.specs.Known.{key_knows}
use Rattle.encoding.specs.Meanings.{key_fields, key_data_fields}
use Rattle.encoding.specs.Views.{key_view, fields_of_key, key_data_view, fields_of_key_data}
use Rattle.encoding.specs.Messages.{Sound, Took, Filled}
use Rattle.encoding.specs.Scanning.{field_of, number_is}
use Rattle.encoding.specs.declared.content.Content.{Content}
use Rattle.encoding.specs.declared.records.Key.{Key}
use Rattle.encoding.specs.Fields.{encode_same}
use Rattle.encoding.specs.Orders.{all_small}
use Rattle.encoding.specs.Shapes.{none, join, Level, first, rest, split}
use Rattle.encoding.specs.Sorts.{signed-sound, signed-told, unsigned-sound, unsigned-told, present-sound, present-told, present_view, sound_as, two_bytes}
use Rattle.encoding.specs.KeyDatas.{sound as inner_sound, alike as inner_alike}

abbrev pub piece1 : Key → List Field
piece1 r = present key_data_fields 1 (option_map key_data_view r.key_data)

abbrev pub piece2 : Key → List Field
piece2 r = signed 2 r.status

abbrev pub piece3 : Key → List Field
piece3 r = unsigned 3 r.key_id

abbrev pub piece4 : Key → List Field
piece4 r = signed 4 r.output_prefix_type

abbrev pub tail3 : Key → List Field
tail3 r = piece4 r ++ []

abbrev pub tail2 : Key → List Field
tail2 r = piece3 r ++ tail3 r

abbrev pub tail1 : Key → List Field
tail1 r = piece2 r ++ tail2 r

part1 : (r : Key) → Sound key_knows 1 1 211 (piece1 r)
unfolding fields_of_key_data
part1 r = sound_as (present_view key_data_fields key_data_view 1 r.key_data) (present-sound key_knows 1 208 2 fields_of_key_data r.key_data (omega arith) (omega arith) (λ b. refl) (omega arith) (λ i. (inner_sound i).size) (two_bytes (omega arith)))

part2 : (r : Key) → Sound key_knows 2 2 11 (piece2 r)
part2 r = signed-sound key_knows 2 r.status (omega arith) (omega arith) (λ u. refl) r.status_width

part3 : (r : Key) → Sound key_knows 3 3 6 (piece3 r)
part3 r = unsigned-sound key_knows 3 r.key_id (omega arith) (omega arith) (λ u. refl) r.id_width

part4 : (r : Key) → Sound key_knows 4 4 11 (piece4 r)
part4 r = signed-sound key_knows 4 r.output_prefix_type (omega arith) (omega arith) (λ u. refl) r.prefix_width

from4 : (r : Key) → Sound key_knows 4 15 11 (tail3 r)
from4 r = join (omega arith) (part4 r) none

from3 : (r : Key) → Sound key_knows 3 15 17 (tail2 r)
from3 r = join (omega arith) (part3 r) (from4 r)

from2 : (r : Key) → Sound key_knows 2 15 28 (tail1 r)
from2 r = join (omega arith) (part2 r) (from3 r)

pub sound : (r : Key) → Sound key_knows 1 15 239 (fields_of_key r)
unfolding key_fields fields_of_key
sound r = join (omega arith) (part1 r) (from2 r)

level1 : Level key_knows 1 piece1 tail1
level1 = record { here = λ r. (part1 r).ordered; after = λ r. (from2 r).ordered }

level2 : Level key_knows 2 piece2 tail2
level2 = record { here = λ r. (part2 r).ordered; after = λ r. (from3 r).ordered }

level3 : Level key_knows 3 piece3 tail3
level3 = record { here = λ r. (part3 r).ordered; after = λ r. (from4 r).ordered }

level4 : Level key_knows 4 piece4 (λ r. [])
level4 = record { here = λ r. (part4 r).ordered; after = λ r. (none {K = key_knows} {lo = 5} {hi = 15}).ordered }

pub take1 : (b : Bool) (old new : Key) (x : Content) → tail1 new ≡ tail1 old →
    Filled (present fields_of_key_data 1) (λ _. Unit {0}) b old.key_data new.key_data (field_of 1 x) → Took fields_of_key b old new (field_of 1 x)
unfolding key_fields fields_of_key fields_of_key_data
take1 b old new x s0 h =
    first level1 (present fields_of_key_data 1) (λ _. Unit {0}) (λ r. r.key_data) (λ _. tt) (λ r. present_view key_data_fields key_data_view 1 r.key_data) b old new (field_of 1 x) (number_is 1 x) s0 h

pub take2 : (b : Bool) (old new : Key) (x : Content) → piece1 new ≡ piece1 old → tail2 new ≡ tail2 old →
    Filled (signed 2) (λ z. SFits w32 z) b old.status new.status (field_of 2 x) → Took fields_of_key b old new (field_of 2 x)
unfolding key_fields fields_of_key
take2 b old new x s0 s1 h =
    rest level1 b old new (field_of 2 x) (omega (arith, number_is 2 x)) s0 (
    first level2 (signed 2) (λ z. SFits w32 z) (λ r. r.status) (λ r. record { sfits = r.status_width }) (λ r. refl) b old new (field_of 2 x) (number_is 2 x) s1 h)

pub take3 : (b : Bool) (old new : Key) (x : Content) → piece1 new ≡ piece1 old → piece2 new ≡ piece2 old → tail3 new ≡ tail3 old →
    Filled (unsigned 3) (λ z. z < 2 ^ 32) b old.key_id new.key_id (field_of 3 x) → Took fields_of_key b old new (field_of 3 x)
unfolding key_fields fields_of_key
take3 b old new x s0 s1 s2 h =
    rest level1 b old new (field_of 3 x) (omega (arith, number_is 3 x)) s0 (
    rest level2 b old new (field_of 3 x) (omega (arith, number_is 3 x)) s1 (
    first level3 (unsigned 3) (λ z. z < 2 ^ 32) (λ r. r.key_id) (λ r. r.id_width) (λ r. refl) b old new (field_of 3 x) (number_is 3 x) s2 h))

pub take4 : (b : Bool) (old new : Key) (x : Content) → piece1 new ≡ piece1 old → piece2 new ≡ piece2 old → piece3 new ≡ piece3 old →
    Filled (signed 4) (λ z. SFits w32 z) b old.output_prefix_type new.output_prefix_type (field_of 4 x) → Took fields_of_key b old new (field_of 4 x)
unfolding key_fields fields_of_key
take4 b old new x s0 s1 s2 h =
    rest level1 b old new (field_of 4 x) (omega (arith, number_is 4 x)) s0 (
    rest level2 b old new (field_of 4 x) (omega (arith, number_is 4 x)) s1 (
    rest level3 b old new (field_of 4 x) (omega (arith, number_is 4 x)) s2 (
    first level4 (signed 4) (λ z. SFits w32 z) (λ r. r.output_prefix_type) (λ r. record { sfits = r.prefix_width }) (λ r. refl) b old new (field_of 4 x) (number_is 4 x) refl h)))

pub told : (r s : Key) → fields_of_key r ≡ fields_of_key s → key_view r ≡ key_view s
unfolding key_fields fields_of_key fields_of_key_data
told r s h =
    let e1 = split level1 r s h in
    let e2 = split level2 r s e1.1 in
    let e3 = split level3 r s e2.1 in
    let e4 = split level4 r s e3.1 in
    let m1 = present-told fields_of_key_data key_data_view inner_alike 1 r.key_data s.key_data (present_view key_data_fields key_data_view 1 r.key_data ∙ e1.0 ∙ sym (present_view key_data_fields key_data_view 1 s.key_data)) in
    let m2 = signed-told 2 r.status s.status r.status_width s.status_width e2.0 in
    let m3 = unsigned-told 3 r.key_id s.key_id e3.0 in
    let m4 = signed-told 4 r.output_prefix_type s.output_prefix_type r.prefix_width s.prefix_width e4.0 in
    cc

-- equal bytes, equal meanings
pub alike : (r s : Key) → encode (fields_of_key r) ≡ encode (fields_of_key s) → key_view r ≡ key_view s
alike r s e = told r s (encode_same (fields_of_key r) (fields_of_key s) (all_small key_knows 1 15 (fields_of_key r) (sound r).ordered) (all_small key_knows 1 15 (fields_of_key s) (sound s).ordered) e)
