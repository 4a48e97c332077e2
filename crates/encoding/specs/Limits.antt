-- The limits, of what records mean. A record that the code can hold is one within the limits, and no other.
use Rattle.std.specs.Prelude.{◌≡◌, ℕ, ◌^◌, ◌<◌, ◌≤◌, true, List, length, ℤ, IfSome}
use Rattle.std.specs.Int.Signed.{mag}
use Rattle.std.specs.List.{AllByRecursion}
use Rattle.encoding.specs.Lists.{visible}
use Rattle.encoding.specs.Meanings.{KeyDataMeaning, KeyTemplateMeaning, KeyMeaning, KeysetMeaning, KeyInfoMeaning, KeysetInfoMeaning, EncryptedKeysetMeaning}
use Rattle.encoding.specs.Views.{key_data_view, key_template_view, key_view, keyset_view, key_info_view, keyset_info_view, encrypted_keyset_view}

-- 64 bytes, each from 0x21 to 0x7E
pub record UrlWithin (u : List ℕ) : Type 0 where
  pub short : length u ≤ 64
  pub seen : visible u ≡ true

abbrev pub Unsigned32 : ℕ → Type 0
Unsigned32 n = n < 2 ^ 32

-- `mag z` is n both for n and for -(n + 1)
abbrev pub Signed32 : ℤ → Type 0
Signed32 z = mag z < 2 ^ 31

pub record KeyDataWithin (m : KeyDataMeaning) : Type 0 where
  pub url : UrlWithin m.type_url
  pub value : length m.value ≤ 128
  pub material : Signed32 m.key_material_type

pub record KeyTemplateWithin (m : KeyTemplateMeaning) : Type 0 where
  pub url : UrlWithin m.type_url
  pub value : length m.value ≤ 128
  pub prefix : Signed32 m.output_prefix_type

pub record KeyWithin (m : KeyMeaning) : Type 0 where
  pub content : IfSome m.key_data KeyDataWithin
  pub status : Signed32 m.status
  pub id : Unsigned32 m.key_id
  pub prefix : Signed32 m.output_prefix_type

pub record KeysetWithin (m : KeysetMeaning) : Type 0 where
  pub primary : Unsigned32 m.primary_key_id
  pub few : length m.keys ≤ 16
  pub all : AllByRecursion KeyWithin m.keys

pub record KeyInfoWithin (m : KeyInfoMeaning) : Type 0 where
  pub url : UrlWithin m.type_url
  pub status : Signed32 m.status
  pub id : Unsigned32 m.key_id
  pub prefix : Signed32 m.output_prefix_type

pub record KeysetInfoWithin (m : KeysetInfoMeaning) : Type 0 where
  pub primary : Unsigned32 m.primary_key_id
  pub few : length m.key_infos ≤ 16
  pub all : AllByRecursion KeyInfoWithin m.key_infos

pub record EncryptedKeysetWithin (m : EncryptedKeysetMeaning) : Type 0 where
  pub sealed : length m.encrypted_keyset ≤ 4160
  pub info : IfSome m.keyset_info KeysetInfoWithin

-- each record means something within the limits, and each such meaning is some record's
pub record Exactly {R X : Type 0} (view : R → X) (Within : X → Type 0) : Type 0 where
  pub held : (r : R) → Within (view r)
  pub made : (m : X) → Within m → (r : R) × (view r ≡ m)

pub record EveryLimit : Type 0 where
  pub key_data : Exactly key_data_view KeyDataWithin
  pub key_template : Exactly key_template_view KeyTemplateWithin
  pub key : Exactly key_view KeyWithin
  pub keyset : Exactly keyset_view KeysetWithin
  pub key_info : Exactly key_info_view KeyInfoWithin
  pub keyset_info : Exactly keyset_info_view KeysetInfoWithin
  pub encrypted_keyset : Exactly encrypted_keyset_view EncryptedKeysetWithin
