-- The meaning of each record that the code holds.
use Rattle.std.specs.Prelude.{ℕ, List, map}
use Rattle.std.specs.Option.{option_map}
use Rattle.encoding.specs.Wire.{Field}
use Rattle.encoding.specs.Lists.{list}
use Rattle.encoding.specs.Meanings.{KeyDataMeaning, KeyTemplateMeaning, KeyMeaning, KeysetMeaning, KeyInfoMeaning, KeysetInfoMeaning, EncryptedKeysetMeaning, key_data_fields, key_template_fields, key_fields, keyset_fields, key_info_fields, keyset_info_fields, encrypted_keyset_fields}
use Rattle.encoding.specs.declared.url.TypeUrl.{TypeUrl}
use Rattle.encoding.specs.declared.records.KeyData.{KeyData}
use Rattle.encoding.specs.declared.records.KeyTemplate.{KeyTemplate}
use Rattle.encoding.specs.declared.records.Key.{Key}
use Rattle.encoding.specs.declared.records.Keyset.{Keyset}
use Rattle.encoding.specs.declared.records.KeyInfo.{KeyInfo}
use Rattle.encoding.specs.declared.records.KeysetInfo.{KeysetInfo}
use Rattle.encoding.specs.declared.records.EncryptedKeyset.{EncryptedKeyset}

abbrev pub url_bytes : TypeUrl → List ℕ
url_bytes u = list u.text

abbrev pub key_data_view : KeyData → KeyDataMeaning
key_data_view d = record { type_url = url_bytes d.type_url; value = list d.value; key_material_type = d.key_material_type }

abbrev pub key_template_view : KeyTemplate → KeyTemplateMeaning
key_template_view t = record { type_url = url_bytes t.type_url; value = list t.value; output_prefix_type = t.output_prefix_type }

abbrev pub key_view : Key → KeyMeaning
key_view k = record { key_data = option_map key_data_view k.key_data; status = k.status; key_id = k.key_id; output_prefix_type = k.output_prefix_type }

abbrev pub keyset_view : Keyset → KeysetMeaning
keyset_view s = record { primary_key_id = s.primary_key_id; keys = map key_view (list s.key) }

abbrev pub key_info_view : KeyInfo → KeyInfoMeaning
key_info_view i = record { type_url = url_bytes i.type_url; status = i.status; key_id = i.key_id; output_prefix_type = i.output_prefix_type }

abbrev pub keyset_info_view : KeysetInfo → KeysetInfoMeaning
keyset_info_view s = record { primary_key_id = s.primary_key_id; key_infos = map key_info_view (list s.key_info) }

abbrev pub encrypted_keyset_view : EncryptedKeyset → EncryptedKeysetMeaning
encrypted_keyset_view e = record { encrypted_keyset = list e.encrypted_keyset; keyset_info = option_map keyset_info_view e.keyset_info }

-- and the fields that it is written as
unfoldable pub fields_of_key_data : KeyData → List Field
fields_of_key_data r = key_data_fields (key_data_view r)

unfoldable pub fields_of_key_template : KeyTemplate → List Field
fields_of_key_template r = key_template_fields (key_template_view r)

unfoldable pub fields_of_key : Key → List Field
fields_of_key r = key_fields (key_view r)

unfoldable pub fields_of_keyset : Keyset → List Field
fields_of_keyset r = keyset_fields (keyset_view r)

unfoldable pub fields_of_key_info : KeyInfo → List Field
fields_of_key_info r = key_info_fields (key_info_view r)

unfoldable pub fields_of_keyset_info : KeysetInfo → List Field
fields_of_keyset_info r = keyset_info_fields (keyset_info_view r)

unfoldable pub fields_of_encrypted_keyset : EncryptedKeyset → List Field
fields_of_encrypted_keyset r = encrypted_keyset_fields (encrypted_keyset_view r)
