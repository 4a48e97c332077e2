-- Which keys and keysets are valid, and which rule is broken first.
use Rattle.std.specs.Prelude.{ℕ, ◌+◌, Bool, true, false, not, ◌&&◌, ◌||◌, List, [], ◌∷◌, is_some, Some, None, Ok, Err, Option, ◌==◌}
use Rattle.ciphers.specs.Faults.{fault}
use Rattle.ciphers.specs.declared.fault.Layer.TheVariants.{Validation}
use Rattle.ciphers.specs.declared.fault.Refusal.TheVariants.{EmptyKeyset, ZeroKeyId, NoKeyData, UnknownPrefixType, UnknownStatus, SecondPrimary, NoneEnabled, NoPrimary, VersionTooHigh}
use Rattle.ciphers.specs.declared.fault.Fault.{Fault}
use Rattle.encoding.specs.Meanings.{KeyMeaning, KeyDataMeaning, KeysetMeaning}
use Rattle.encoding.specs.declared.numbers.KeyMaterialType.{KeyMaterialType}
use Rattle.encoding.specs.declared.numbers.KeyMaterialType.TheVariants.{UnknownKeymaterial, Symmetric, AsymmetricPrivate, AsymmetricPublic, Remote}
use Rattle.keysets.specs.Answering.{Answer, only_if, at_place, and_then}
use Rattle.encoding.specs.Kinds.{status_of, prefix_of, material_of}
use Rattle.keysets.specs.Edits.{is_enabled}

abbrev pub version_too_high : Fault
version_too_high = fault VersionTooHigh Validation

-- a key's own rules, in their order
abbrev pub valid_key : KeyMeaning → Answer
valid_key k = and_then (only_if (not (k.key_id == 0)) (fault ZeroKeyId Validation))
    (and_then (only_if (is_some k.key_data) (fault NoKeyData Validation))
    (and_then (only_if (is_some (prefix_of k.output_prefix_type)) (fault UnknownPrefixType Validation))
    (only_if (is_some (status_of k.status)) (fault UnknownStatus Validation))))

abbrev pub enabled_key : KeyMeaning → Bool
enabled_key k = is_enabled (status_of k.status)

-- an Enabled key with the primary id
abbrev pub primary_key : ℕ → KeyMeaning → Bool
primary_key p k = enabled_key k && k.key_id == p

abbrev pub is_public : Option KeyMaterialType → Bool
is_public None = false
is_public (Some UnknownKeymaterial) = false
is_public (Some Symmetric) = false
is_public (Some AsymmetricPrivate) = false
is_public (Some AsymmetricPublic) = true
is_public (Some Remote) = false

abbrev pub not_public_data : Option KeyDataMeaning → Bool
not_public_data None = false
not_public_data (Some d) = not (is_public (material_of d.key_material_type))

-- an Enabled key whose material is not AsymmetricPublic
abbrev pub not_public_key : KeyMeaning → Bool
not_public_key k = enabled_key k && not_public_data k.key_data

-- a key and its position in the whole keyset
pub record PlacedKey : Type 0 where
  pub position : ℕ
  pub key : KeyMeaning

abbrev pub placed_from : ℕ → List KeyMeaning → List PlacedKey
placed_from i [] = []
placed_from i (k ∷ ks) = record { position = i; key = k } ∷ placed_from (i + 1) ks

-- whether some key passes a test
abbrev pub any_key : (KeyMeaning → Bool) → List PlacedKey → Bool
any_key test [] = false
any_key test (k ∷ ks) = test k.key || any_key test ks

-- a second Enabled key with the primary id is refused; `had` says that there was one before
abbrev pub not_second : ℕ → Bool → KeyMeaning → Answer
not_second p had k = only_if (not (had && primary_key p k)) (fault SecondPrimary Validation)

-- key by key
abbrev pub valid_keys : ℕ → Bool → List PlacedKey → Answer
valid_keys p had [] = Ok tt
valid_keys p had (k ∷ ks) = and_then (at_place k.position (valid_key k.key))
    (and_then (at_place k.position (not_second p had k.key))
    (valid_keys p (had || primary_key p k.key) ks))

-- after all keys: whether one is Enabled, one is primary, and one Enabled key is not public
abbrev pub valid_whole : Bool → Bool → Bool → Answer
valid_whole some_enabled some_primary some_not_public = and_then (only_if some_enabled (fault NoneEnabled Validation))
    (only_if (some_primary || not some_not_public) (fault NoPrimary Validation))

-- the validity of some keys of a keyset, each at its position
abbrev pub valid_among : ℕ → List PlacedKey → Answer
valid_among p [] = Err (fault EmptyKeyset Validation)
valid_among p (k ∷ ks) = and_then (valid_keys p false (k ∷ ks))
    (valid_whole (any_key enabled_key (k ∷ ks)) (any_key (primary_key p) (k ∷ ks)) (any_key not_public_key (k ∷ ks)))

-- and of all of them
unfoldable pub valid : KeysetMeaning → Answer
valid s = valid_among s.primary_key_id (placed_from 0 s.keys)
