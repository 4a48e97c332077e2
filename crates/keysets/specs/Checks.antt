-- What is asked of a keyset before a handle on it is made or it is saved.
use Rattle.std.specs.Prelude.{ℕ, ◌+◌, Bool, true, false, List, [], ◌∷◌, is_some, Some, None, Ok, Option}
use Rattle.ciphers.specs.Faults.{fault}
use Rattle.ciphers.specs.declared.fault.Layer.TheVariants.{Handle}
use Rattle.ciphers.specs.declared.fault.Refusal.TheVariants.{NoKeyData, UnknownMaterial}
use Rattle.encoding.specs.Meanings.{KeyMeaning, KeyDataMeaning, KeysetMeaning}
use Rattle.encoding.specs.declared.numbers.KeyStatusType.{KeyStatusType}
use Rattle.encoding.specs.declared.numbers.KeyStatusType.TheVariants.{Enabled, Disabled, Destroyed}
use Rattle.keysets.specs.Answering.{Answer, only_if, at_place, and_then}
use Rattle.encoding.specs.Kinds.{status_of, material_of}

abbrev pub is_destroyed : Option KeyStatusType → Bool
is_destroyed None = false
is_destroyed (Some Enabled) = false
is_destroyed (Some Disabled) = false
is_destroyed (Some Destroyed) = true

-- key data has a material type from 0 to 4
abbrev pub checked_data : KeyDataMeaning → Answer
checked_data d = only_if (is_some (material_of d.key_material_type)) (fault UnknownMaterial Handle)

-- and only a Destroyed key may be without it
abbrev pub checked_part : Option KeyStatusType → Option KeyDataMeaning → Answer
checked_part s None = only_if (is_destroyed s) (fault NoKeyData Handle)
checked_part s (Some d) = checked_data d

abbrev pub checked_key : KeyMeaning → Answer
checked_key k = checked_part (status_of k.status) k.key_data

-- the first refusal of a test that goes key by key, at its key's position
abbrev pub each_key : (KeyMeaning → Answer) → ℕ → List KeyMeaning → Answer
each_key test i [] = Ok tt
each_key test i (k ∷ ks) = and_then (at_place i (test k)) (each_key test (i + 1) ks)

unfoldable pub checked : KeysetMeaning → Answer
checked s = each_key checked_key 0 s.keys
