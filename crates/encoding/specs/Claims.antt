-- What is claimed of the encoding as a whole.
use Rattle.std.specs.Prelude.{◌≡◌, List, [], ◌∷◌, pos, None, Decides}
use Rattle.std.specs.Str.{bytes_eq}
use Rattle.encoding.specs.declared.url.TypeUrl.{TypeUrl}
use Rattle.encoding.specs.Lists.{list}
use Rattle.encoding.specs.Wire.{Field, encode}
use Rattle.encoding.specs.Meanings.{KeyMeaning, keyset_of, keyset_fields}
use Rattle.encoding.specs.Views.{key_data_view, key_template_view, key_view, keyset_view, key_info_view, keyset_info_view, encrypted_keyset_view}
use Rattle.encoding.specs.Views.{fields_of_key_data, fields_of_key_template, fields_of_key, fields_of_keyset, fields_of_key_info, fields_of_keyset_info, fields_of_encrypted_keyset}

-- records with equal encodings have equal meanings
abbrev pub Injective : {R X : Type 0} → (R → List Field) → (R → X) → Type 0
Injective fields view = (r s : _) → encode (fields r) ≡ encode (fields s) → view r ≡ view s

pub record EveryRecord : Type 0 where
  pub key_data : Injective fields_of_key_data key_data_view
  pub key_template : Injective fields_of_key_template key_template_view
  pub key : Injective fields_of_key key_view
  pub keyset : Injective fields_of_keyset keyset_view
  pub key_info : Injective fields_of_key_info key_info_view
  pub keyset_info : Injective fields_of_keyset_info keyset_info_view
  pub encrypted_keyset : Injective fields_of_encrypted_keyset encrypted_keyset_view

-- the empty keyset has no bytes
abbrev pub EmptyKeyset : Type 0
EmptyKeyset = encode (keyset_fields (keyset_of 0 [])) ≡ []

-- primary 7, and one key: no data, status 3 (Destroyed), id 7, prefix type 1 (Tink)
abbrev pub destroyed_key : KeyMeaning
destroyed_key = record { key_data = None; status = pos 3; key_id = 7; output_prefix_type = pos 1 }

abbrev pub OneDestroyedKey : Type 0
OneDestroyedKey = encode (keyset_fields (keyset_of 7 (destroyed_key ∷ [])))
    ≡ 0x08 ∷ 0x07 ∷ 0x12 ∷ 0x06 ∷ 0x10 ∷ 0x03 ∷ 0x18 ∷ 0x07 ∷ 0x20 ∷ 0x01 ∷ []

-- type URLs have equal bytes exactly where they are equal
abbrev pub UrlsByBytes : Type 0
UrlsByBytes = (a b : TypeUrl) → Decides (bytes_eq (list a.text) (list b.text)) (a ≡ b)
