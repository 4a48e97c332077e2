-- KeyData, by its three parts.
use Rattle.std.specs.Prelude.{◌≡◌, Bool, refl}
use Rattle.std.proofs.Common.{SFits}
use Rattle.std.specs.Int.{w32}
use Rattle.encoding.specs.Members.{signed, text}
use Rattle.encoding.specs.Lists.{list}
use Rattle.encoding.specs.Scanning.{field_of}
use Rattle.encoding.specs.declared.content.Content.{Content}
use Rattle.encoding.specs.declared.url.TypeUrl.{TypeUrl}
use Rattle.encoding.specs.Wire.{encode}
use Rattle.encoding.specs.Known.{key_data_knows}
use Rattle.encoding.specs.Meanings.{key_data_fields}
use Rattle.encoding.specs.Views.{key_data_view, fields_of_key_data}
use Rattle.encoding.specs.Messages.{Sound, Took, Filled}
use Rattle.encoding.specs.declared.records.KeyData.{KeyData}
use Rattle.encoding.specs.Fields.{encode_same}
use Rattle.encoding.specs.Orders.{all_small}
use Rattle.encoding.specs.Texts.{Three, piece1, piece2, tail1, tail2, sound as sound_parts, told as told_parts, take1 as take_url, take2 as take_value, take3 as take_kind}

abbrev pub three : Three KeyData key_data_knows
three = record { url = λ r. r.type_url; value = λ r. r.value; kind = λ r. r.key_material_type; width = λ r. r.material_width; knows1 = λ b. refl; knows2 = λ b. refl; knows3 = λ v. refl }

pub sound : (r : KeyData) → Sound key_data_knows 1 15 208 (fields_of_key_data r)
unfolding key_data_fields fields_of_key_data
sound r = sound_parts three r

pub take1 : (b : Bool) (old new : KeyData) (x : Content) → tail1 three new ≡ tail1 three old
    → Filled (λ (u : TypeUrl). text 1 (list u.text)) (λ _. Unit {0}) b old.type_url new.type_url (field_of 1 x) → Took fields_of_key_data b old new (field_of 1 x)
unfolding key_data_fields fields_of_key_data
take1 b old new x s0 h = take_url three b old new x s0 h

pub take2 : (b : Bool) (old new : KeyData) (x : Content) → piece1 three new ≡ piece1 three old → tail2 three new ≡ tail2 three old
    → Filled (λ b. text 2 (list b)) (λ _. Unit {0}) b old.value new.value (field_of 2 x) → Took fields_of_key_data b old new (field_of 2 x)
unfolding key_data_fields fields_of_key_data
take2 b old new x s0 s1 h = take_value three b old new x s0 s1 h

pub take3 : (b : Bool) (old new : KeyData) (x : Content) → piece1 three new ≡ piece1 three old → piece2 three new ≡ piece2 three old
    → Filled (signed 3) (λ z. SFits w32 z) b old.key_material_type new.key_material_type (field_of 3 x) → Took fields_of_key_data b old new (field_of 3 x)
unfolding key_data_fields fields_of_key_data
take3 b old new x s0 s1 h = take_kind three b old new x s0 s1 h

pub told : (r s : KeyData) → fields_of_key_data r ≡ fields_of_key_data s → key_data_view r ≡ key_data_view s
unfolding key_data_fields fields_of_key_data
told r s h =
    let m = told_parts three r s h in
    let m1 = m.0 in
    let m2 = m.1 in
    let m3 = m.2 in
    cc

-- equal bytes, equal meanings
pub alike : (r s : KeyData) → encode (fields_of_key_data r) ≡ encode (fields_of_key_data s) → key_data_view r ≡ key_data_view s
alike r s e = told r s (encode_same (fields_of_key_data r) (fields_of_key_data s) (all_small key_data_knows 1 15 (fields_of_key_data r) (sound r).ordered) (all_small key_data_knows 1 15 (fields_of_key_data s) (sound s).ordered) e)
