-- What each record means, as lists and numbers, and the fields that it is written as, in the order of their numbers.
use Rattle.std.specs.Prelude.{ℕ, List, [], ◌∷◌, ◌++◌, ℤ, Option}
use Rattle.encoding.specs.Wire.{Field}
use Rattle.encoding.specs.Members.{unsigned, signed, text, present, each}

-- one part after the other
abbrev pub in_order : List (List Field) → List Field
in_order [] = []
in_order (p ∷ ps) = p ++ in_order ps

pub record KeyDataMeaning : Type 0 where
  pub type_url : List ℕ
  pub value : List ℕ
  pub key_material_type : ℤ

abbrev pub key_data_of : List ℕ → List ℕ → ℤ → KeyDataMeaning
key_data_of u v n = record { type_url = u; value = v; key_material_type = n }

unfoldable pub key_data_fields : KeyDataMeaning → List Field
key_data_fields m = in_order (text 1 m.type_url ∷ text 2 m.value ∷ signed 3 m.key_material_type ∷ [])

pub record KeyTemplateMeaning : Type 0 where
  pub type_url : List ℕ
  pub value : List ℕ
  pub output_prefix_type : ℤ

abbrev pub key_template_of : List ℕ → List ℕ → ℤ → KeyTemplateMeaning
key_template_of u v n = record { type_url = u; value = v; output_prefix_type = n }

unfoldable pub key_template_fields : KeyTemplateMeaning → List Field
key_template_fields m = in_order (text 1 m.type_url ∷ text 2 m.value ∷ signed 3 m.output_prefix_type ∷ [])

pub record KeyMeaning : Type 0 where
  pub key_data : Option KeyDataMeaning
  pub status : ℤ
  pub key_id : ℕ
  pub output_prefix_type : ℤ

unfoldable pub key_fields : KeyMeaning → List Field
key_fields m = in_order (present key_data_fields 1 m.key_data ∷ signed 2 m.status ∷ unsigned 3 m.key_id ∷ signed 4 m.output_prefix_type ∷ [])

pub record KeysetMeaning : Type 0 where
  pub primary_key_id : ℕ
  pub keys : List KeyMeaning

abbrev pub keyset_of : ℕ → List KeyMeaning → KeysetMeaning
keyset_of p ks = record { primary_key_id = p; keys = ks }

unfoldable pub keyset_fields : KeysetMeaning → List Field
keyset_fields m = in_order (unsigned 1 m.primary_key_id ∷ each key_fields 2 m.keys ∷ [])

pub record KeyInfoMeaning : Type 0 where
  pub type_url : List ℕ
  pub status : ℤ
  pub key_id : ℕ
  pub output_prefix_type : ℤ

unfoldable pub key_info_fields : KeyInfoMeaning → List Field
key_info_fields m = in_order (text 1 m.type_url ∷ signed 2 m.status ∷ unsigned 3 m.key_id ∷ signed 4 m.output_prefix_type ∷ [])

pub record KeysetInfoMeaning : Type 0 where
  pub primary_key_id : ℕ
  pub key_infos : List KeyInfoMeaning

unfoldable pub keyset_info_fields : KeysetInfoMeaning → List Field
keyset_info_fields m = in_order (unsigned 1 m.primary_key_id ∷ each key_info_fields 2 m.key_infos ∷ [])

pub record EncryptedKeysetMeaning : Type 0 where
  pub encrypted_keyset : List ℕ
  pub keyset_info : Option KeysetInfoMeaning

unfoldable pub encrypted_keyset_fields : EncryptedKeysetMeaning → List Field
encrypted_keyset_fields m = in_order (text 2 m.encrypted_keyset ∷ present keyset_info_fields 3 m.keyset_info ∷ [])
