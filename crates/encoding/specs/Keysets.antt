-- Keyset, by its two parts.
use Rattle.std.specs.Prelude.{◌≡◌, ◌^◌, ◌<◌, Bool, List, [], ◌++◌, map, refl}
use Rattle.std.proofs.Common.{sym, ◌∙◌, arith}
use Rattle.encoding.specs.Wire.{Field, encode}
use Rattle.encoding.specs.Members.{each, unsigned}
use Rattle.encoding.specs.Known.{keyset_knows}
use Rattle.encoding.specs.Lists.{list}
use Rattle.encoding.specs.Meanings.{keyset_fields, key_fields}
use Rattle.encoding.specs.Views.{keyset_view, fields_of_keyset, key_view, fields_of_key}
use Rattle.encoding.specs.Messages.{Sound, Took, Filled}
use Rattle.encoding.specs.Scanning.{field_of, number_is}
use Rattle.encoding.specs.declared.content.Content.{Content}
use Rattle.encoding.specs.declared.records.Keyset.{Keyset}
use Rattle.encoding.specs.declared.bounded.Bounded.{Bounded}
use Rattle.encoding.specs.declared.records.Key.{Key}
use Rattle.encoding.specs.Fields.{encode_same}
use Rattle.encoding.specs.ListsLemmas.{list_length}
use Rattle.encoding.specs.Orders.{all_small}
use Rattle.encoding.specs.Shapes.{none, join, Level, first, rest, split}
use Rattle.encoding.specs.Sorts.{unsigned-sound, unsigned-told, each-sound, each-told, each_view, sound_as, within-size, two_bytes}
use Rattle.encoding.specs.Keys.{sound as inner_sound, alike as inner_alike}

abbrev pub piece1 : Keyset → List Field
piece1 r = unsigned 1 r.primary_key_id

abbrev pub piece2 : Keyset → List Field
piece2 r = each key_fields 2 (map key_view (list r.key))

abbrev pub tail1 : Keyset → List Field
tail1 r = piece2 r ++ []

part1 : (r : Keyset) → Sound keyset_knows 1 1 6 (piece1 r)
part1 r = unsigned-sound keyset_knows 1 r.primary_key_id (omega arith) (omega arith) (λ u. refl) r.id_width

part2 : (r : Keyset) → Sound keyset_knows 2 2 3872 (piece2 r)
unfolding fields_of_key
part2 r = sound_as (each_view key_fields key_view 2 (list r.key))
    (within-size 3872 (omega (arith, list_length r.key, r.key.fits)) (each-sound keyset_knows 2 239 2 fields_of_key (list r.key) (omega arith) (omega arith) (λ b. refl) (omega arith) (λ i. (inner_sound i).size) (two_bytes (omega arith))))

from2 : (r : Keyset) → Sound keyset_knows 2 15 3872 (tail1 r)
from2 r = join (omega arith) (part2 r) none

pub sound : (r : Keyset) → Sound keyset_knows 1 15 3878 (fields_of_keyset r)
unfolding keyset_fields fields_of_keyset
sound r = join (omega arith) (part1 r) (from2 r)

level1 : Level keyset_knows 1 piece1 tail1
level1 = record { here = λ r. (part1 r).ordered; after = λ r. (from2 r).ordered }

level2 : Level keyset_knows 2 piece2 (λ r. [])
level2 = record { here = λ r. (part2 r).ordered; after = λ r. (none {K = keyset_knows} {lo = 3} {hi = 15}).ordered }

pub take1 : (b : Bool) (old new : Keyset) (x : Content) → tail1 new ≡ tail1 old →
    Filled (unsigned 1) (λ z. z < 2 ^ 32) b old.primary_key_id new.primary_key_id (field_of 1 x) → Took fields_of_keyset b old new (field_of 1 x)
unfolding keyset_fields fields_of_keyset
take1 b old new x s0 h =
    first level1 (unsigned 1) (λ z. z < 2 ^ 32) (λ r. r.primary_key_id) (λ r. r.id_width) (λ r. refl) b old new (field_of 1 x) (number_is 1 x) s0 h

pub take2 : (b : Bool) (old new : Keyset) (x : Content) → piece1 new ≡ piece1 old →
    Filled (λ (b : Bounded Key 16). each fields_of_key 2 (list b)) (λ _. Unit {0}) b old.key new.key (field_of 2 x) → Took fields_of_keyset b old new (field_of 2 x)
unfolding keyset_fields fields_of_keyset fields_of_key
take2 b old new x s0 h =
    rest level1 b old new (field_of 2 x) (omega (arith, number_is 2 x)) s0 (
    first level2 (λ (b : Bounded Key 16). each fields_of_key 2 (list b)) (λ _. Unit {0}) (λ r. r.key) (λ _. tt) (λ r. each_view key_fields key_view 2 (list r.key)) b old new (field_of 2 x) (number_is 2 x) refl h)

pub told : (r s : Keyset) → fields_of_keyset r ≡ fields_of_keyset s → keyset_view r ≡ keyset_view s
unfolding keyset_fields fields_of_keyset fields_of_key
told r s h =
    let e1 = split level1 r s h in
    let e2 = split level2 r s e1.1 in
    let m1 = unsigned-told 1 r.primary_key_id s.primary_key_id e1.0 in
    let m2 = each-told fields_of_key key_view inner_alike 2 (list r.key) (list s.key) (each_view key_fields key_view 2 (list r.key) ∙ e2.0 ∙ sym (each_view key_fields key_view 2 (list s.key))) in
    cc

-- equal bytes, equal meanings
pub alike : (r s : Keyset) → encode (fields_of_keyset r) ≡ encode (fields_of_keyset s) → keyset_view r ≡ keyset_view s
alike r s e = told r s (encode_same (fields_of_keyset r) (fields_of_keyset s) (all_small keyset_knows 1 15 (fields_of_keyset r) (sound r).ordered) (all_small keyset_knows 1 15 (fields_of_keyset s) (sound s).ordered) e)
