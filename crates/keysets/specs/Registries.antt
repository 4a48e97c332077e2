-- What a registry means: the managers that are registered, and what its calls answer by the one that has a type URL.
use Rattle.std.specs.Prelude.{ℕ, zero, suc, Bool, true, cond, List, [], ◌∷◌, length, Some, None, Ok, Err, Option, Result, ◌==◌}
use Rattle.std.specs.Str.{bytes_eq}
use Rattle.ciphers.specs.Faults.{fault}
use Rattle.ciphers.specs.declared.fault.Fault.{Fault}
use Rattle.ciphers.specs.declared.fault.Layer.TheVariants.{Registry as RegistryLayer}
use Rattle.ciphers.specs.declared.fault.Refusal.TheVariants.{NotRegistered, RegisteredAlready, EmptyValue}
use Rattle.encoding.specs.Meanings.{KeyDataMeaning}
use Rattle.keysets.specs.declared.registry.Place.{Place}
use Rattle.keysets.specs.declared.registry.Registry.{Registry}
use Rattle.keysets.specs.Managers.{Maker, KeyMaker, primitive_answer, key_answer, key_data_answer, words_after}

-- both halves of a manager's meaning
pub record Managing (P : Type 0) : Type 0 where
  pub maker : Maker P
  pub keys : KeyMaker

-- the registered managers of a bank, in its order
abbrev pub registered : {X P : Type 0} → (X → Maker P) → (X → KeyMaker) → List (Place X) → List (Managing P)
registered maker keys [] = []
registered maker keys (p ∷ ps) =
    cond p.registered (record { maker = maker p.manager; keys = keys p.manager } ∷ registered maker keys ps) (registered maker keys ps)

-- the managers that a registry holds
abbrev pub managers : {X P : Type 0} → (X → Maker P) → (X → KeyMaker) → Registry X → List (Managing P)
managers maker keys r = registered maker keys r.bank.now

-- the first that has a type URL
abbrev pub found : {P : Type 0} → List ℕ → List (Managing P) → Option (Managing P)
found url [] = None
found url (m ∷ ms) = cond (bytes_eq url m.maker.type_url) (Some m) (found url ms)

abbrev pub unknown : Fault
unknown = fault NotRegistered RegistryLayer

-- new keys and their data, by the manager that was found, and the words left then
abbrev pub new_key_by : {P : Type 0} → Option (Managing P) → List ℕ → List ℕ → Result (List ℕ) Fault
new_key_by None format words = Err unknown
new_key_by (Some m) format words = key_answer (m.keys.new_key format words)

abbrev pub new_key_data_by : {P : Type 0} → Option (Managing P) → List ℕ → List ℕ → Result KeyDataMeaning Fault
new_key_data_by None format words = Err unknown
new_key_data_by (Some m) format words = key_data_answer m.maker.type_url m.keys.material (m.keys.new_key format words)

abbrev pub words_by : {P : Type 0} → Option (Managing P) → List ℕ → List ℕ → List ℕ
words_by None format words = words
words_by (Some m) format words = words_after (m.keys.new_key format words) words

-- a primitive: an empty key is refused first, then an unknown type, then by the manager's reason
abbrev pub primitive_of : {P : Type 0} → Option (Managing P) → List ℕ → Result P Fault
primitive_of None key = Err unknown
primitive_of (Some m) key = primitive_answer (m.maker.primitive key)

abbrev pub primitive_by : {P : Type 0} → Option (Managing P) → List ℕ → Result P Fault
primitive_by m key = cond (length key == 0) (Err (fault EmptyValue RegistryLayer)) (primitive_of m key)

-- registering: 13 R outside the bank, 14 R where the type URL is registered already
abbrev pub url_at : {X P : Type 0} → (X → Maker P) → List (Place X) → ℕ → List ℕ
url_at maker [] n = []
url_at maker (p ∷ ps) zero = (maker p.manager).type_url
url_at maker (p ∷ ps) (suc n) = url_at maker ps n

abbrev pub register_answer : Bool → Bool → Result (Unit {0}) Fault
register_answer inside taken = cond inside (cond taken (Err (fault RegisteredAlready RegistryLayer)) (Ok tt)) (Err unknown)

-- the bank with the manager at a place registered
abbrev pub registered_at : {X : Type 0} → ℕ → List (Place X) → List (Place X)
registered_at n [] = []
registered_at zero (p ∷ ps) = record { manager = p.manager; registered = true } ∷ ps
registered_at (suc n) (p ∷ ps) = p ∷ registered_at n ps
