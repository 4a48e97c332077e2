-- The primitive of a key in use: its data is tested, the registered manager of its type makes the primitive, and a key
-- without a known prefix type is none.
use Rattle.std.specs.Prelude.{◌≡◌, ℕ, true, cond, List, is_some, is_ok, Some, None, Ok, Err, Option, Result}
use Rattle.ciphers.specs.Faults.{fault}
use Rattle.ciphers.specs.declared.fault.Fault.{Fault}
use Rattle.ciphers.specs.declared.fault.Layer.TheVariants.{Handle, Manager}
use Rattle.ciphers.specs.declared.fault.Refusal.TheVariants.{NoKeyData, UnknownPrefixType}
use Rattle.encoding.specs.Lists.{item}
use Rattle.encoding.specs.Meanings.{KeyDataMeaning, KeyMeaning, KeysetMeaning}
use Rattle.keysets.specs.Answering.{Answer, at_place}
use Rattle.keysets.specs.Checks.{checked_key}
use Rattle.keysets.specs.Edits.{key_not_found}
use Rattle.encoding.specs.Kinds.{prefix_of}
use Rattle.keysets.specs.Registries.{Managing, found, primitive_by}

-- an answer once a test was passed
abbrev pub once : {X : Type 0} → Answer → Result X Fault → Result X Fault
once (Ok u) r = r
once (Err f) r = Err f

abbrev pub data_primitive : {P : Type 0} → List (Managing P) → Option KeyDataMeaning → Result P Fault
data_primitive ms None = Err (fault NoKeyData Handle)
data_primitive ms (Some d) = primitive_by (found d.type_url ms) d.value

abbrev pub prefix_tested : {P : Type 0} → KeyMeaning → Result P Fault → Result P Fault
prefix_tested k (Err f) = Err f
prefix_tested k (Ok p) = cond (is_some (prefix_of k.output_prefix_type)) (Ok p) (Err (fault UnknownPrefixType Manager))

abbrev pub key_primitive : {P : Type 0} → List (Managing P) → KeyMeaning → Result P Fault
key_primitive ms k = once (checked_key k) (prefix_tested k (data_primitive ms k.key_data))

-- of the key at a position, if there is one
abbrev pub placed_primitive : {P : Type 0} → List (Managing P) → ℕ → Option KeyMeaning → Result P Fault
placed_primitive ms i None = Err key_not_found
placed_primitive ms i (Some k) = at_place i (key_primitive ms k)

abbrev pub primitive_at : {P : Type 0} → List (Managing P) → ℕ → KeysetMeaning → Result P Fault
primitive_at ms i s = placed_primitive ms i (item s.keys i)

-- the key that an accepted addition put at a position has a primitive
abbrev pub NewKeyUsable : {P : Type 0} → List (Managing P) → ℕ → KeysetMeaning → Result ℕ Fault → Type 0
NewKeyUsable ms i s (Ok id) = is_ok (primitive_at ms i s) ≡ true
NewKeyUsable ms i s (Err f) = Unit {0}
