-- What an edit makes of a keyset, and what it answers.
use Rattle.std.specs.Prelude.{◌≡◌, ℕ, suc, ◌+◌, Bool, true, false, cond, ◌&&◌, List, [], ◌∷◌, ◌++◌, take, drop, pos, is_some, Some, None, Ok, Err, Option, ◌==◌, slice_index_or, slice_set}
use Rattle.std.specs.Option.{option_map}
use Rattle.ciphers.specs.Faults.{fault, placed}
use Rattle.ciphers.specs.declared.fault.Fault.{Fault}
use Rattle.ciphers.specs.declared.fault.Layer.TheVariants.{Manager}
use Rattle.ciphers.specs.declared.fault.Refusal.TheVariants.{KeyNotFound, KeyIsPrimary, StatusBars}
use Rattle.encoding.specs.Meanings.{KeyMeaning, KeysetMeaning}
use Rattle.encoding.specs.Numbers.{status_number}
use Rattle.encoding.specs.declared.numbers.KeyStatusType.{KeyStatusType}
use Rattle.encoding.specs.declared.numbers.KeyStatusType.TheVariants.{Enabled, Disabled, Destroyed}
use Rattle.keysets.specs.Answering.{Answer}
use Rattle.encoding.specs.Kinds.{status_of}
use Rattle.keysets.specs.declared.manager.Edit.{Edit}
use Rattle.keysets.specs.declared.manager.Edit.TheVariants.{Enable, Disable, Destroy, Delete, SetPrimary}

-- the keyset with no key
abbrev pub empty_keyset : KeysetMeaning
empty_keyset = record { primary_key_id = 0; keys = [] }

-- a key without data and with every number 0; no edit reads it
abbrev pub blank_key : KeyMeaning
blank_key = record { key_data = None; status = pos 0; key_id = 0; output_prefix_type = pos 0 }

-- the key at a position
abbrev pub key_at : List KeyMeaning → ℕ → KeyMeaning
key_at ks i = slice_index_or ks i blank_key

-- the position of the first key with an id
abbrev pub position_of : ℕ → List KeyMeaning → Option ℕ
position_of id [] = None
position_of id (k ∷ ks) = cond (k.key_id == id) (Some 0) (option_map suc (position_of id ks))

abbrev pub is_enabled : Option KeyStatusType → Bool
is_enabled None = false
is_enabled (Some Enabled) = true
is_enabled (Some Disabled) = false
is_enabled (Some Destroyed) = false

-- Enabled or Disabled
abbrev pub is_live : Option KeyStatusType → Bool
is_live None = false
is_live (Some Enabled) = true
is_live (Some Disabled) = true
is_live (Some Destroyed) = false

-- whether a key of a status takes an edit; a number that is no status takes only the deletion
abbrev pub takes : Edit → Option KeyStatusType → Bool
takes Enable s = is_live s
takes Disable s = is_live s
takes Destroy s = is_some s
takes Delete s = true
takes SetPrimary s = is_enabled s

-- whether an edit refuses the primary id
abbrev pub spares_primary : Edit → Bool
spares_primary Enable = false
spares_primary Disable = true
spares_primary Destroy = true
spares_primary Delete = true
spares_primary SetPrimary = false

abbrev pub with_status : KeyStatusType → KeyMeaning → KeyMeaning
with_status s k = record { key_data = k.key_data; status = status_number s; key_id = k.key_id; output_prefix_type = k.output_prefix_type }

abbrev pub without_data : KeyMeaning → KeyMeaning
without_data k = record { key_data = None; status = k.status; key_id = k.key_id; output_prefix_type = k.output_prefix_type }

-- the key that took an edit
abbrev pub key_after : Edit → KeyMeaning → KeyMeaning
key_after Enable k = with_status Enabled k
key_after Disable k = with_status Disabled k
key_after Destroy k = without_data (with_status Destroyed k)
key_after Delete k = k
key_after SetPrimary k = k

-- the keys after the one at a position took an edit and became k
abbrev pub keys_after : {K : Type 0} → Edit → ℕ → K → List K → List K
keys_after Enable i k ks = slice_set ks i k
keys_after Disable i k ks = slice_set ks i k
keys_after Destroy i k ks = slice_set ks i k
keys_after Delete i k ks = take i ks ++ drop (i + 1) ks
keys_after SetPrimary i k ks = ks

-- the primary id after a key with an id took an edit
abbrev pub primary_after : Edit → ℕ → ℕ → ℕ
primary_after Enable id p = p
primary_after Disable id p = p
primary_after Destroy id p = p
primary_after Delete id p = p
primary_after SetPrimary id p = id

-- the keyset after its key with an id, at a position, took an edit and became k
abbrev pub keyset_after : Edit → ℕ → ℕ → KeyMeaning → KeysetMeaning → KeysetMeaning
keyset_after e id i k s = record { primary_key_id = primary_after e id s.primary_key_id; keys = keys_after e i k s.keys }

abbrev pub key_is_primary : Fault
key_is_primary = fault KeyIsPrimary Manager

abbrev pub key_not_found : Fault
key_not_found = fault KeyNotFound Manager

abbrev pub status_bars : ℕ → Fault
status_bars i = placed i (fault StatusBars Manager)

-- the keyset after a call, and what the call answered
pub record Edited : Type 0 where
  pub keyset : KeysetMeaning
  pub answer : Answer

abbrev pub refused : KeysetMeaning → Fault → Edited
refused s f = record { keyset = s; answer = Err f }

abbrev pub accepted : KeysetMeaning → Edited
accepted s = record { keyset = s; answer = Ok tt }

-- an edit of the key at a position
abbrev pub edited_at : Edit → ℕ → ℕ → KeysetMeaning → Edited
edited_at e id i s = cond (takes e (status_of (key_at s.keys i).status))
    (accepted (keyset_after e id i (key_after e (key_at s.keys i)) s))
    (refused s (status_bars i))

abbrev pub edited_found : Edit → ℕ → KeysetMeaning → Option ℕ → Edited
edited_found e id s None = refused s key_not_found
edited_found e id s (Some i) = edited_at e id i s

-- whether an edit is kept from the primary id
abbrev pub spared_in : Edit → ℕ → KeysetMeaning → Bool
spared_in e id s = spares_primary e && s.primary_key_id == id

-- an edit of the first key with an id
unfoldable pub edited : Edit → ℕ → KeysetMeaning → Edited
edited e id s = cond (spared_in e id s) (refused s key_is_primary) (edited_found e id s (position_of id s.keys))

-- a call that edits: the keyset after it, and what it answers
pub record Edits (e : Edit) (id : ℕ) (old new : KeysetMeaning) (answer : Answer) : Type 0 where
  pub after : new ≡ (edited e id old).keyset
  pub value : answer ≡ (edited e id old).answer
