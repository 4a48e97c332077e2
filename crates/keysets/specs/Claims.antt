-- What is claimed of the edits, for every keyset, valid or not.
use Rattle.std.specs.Prelude.{◌≡◌, ℕ, ◌+◌, ◌<◌, ◌≤◌, List, ◌++◌, map, length, take, drop, Some, None, Ok, Err, Option, ◌≢◌, slice_set}
use Rattle.ciphers.specs.declared.fault.Fault.{Fault}
use Rattle.encoding.specs.Meanings.{KeyMeaning, KeyDataMeaning, KeysetMeaning}
use Rattle.encoding.specs.declared.numbers.KeyStatusType.TheVariants.{Enabled}
use Rattle.encoding.specs.Kinds.{status_of}
use Rattle.keysets.specs.Edits.{key_at, position_of, key_after, primary_after, accepted, edited}
use Rattle.keysets.specs.declared.manager.Edit.{Edit}
use Rattle.keysets.specs.declared.manager.Edit.TheVariants.{Enable, Disable, Destroy, Delete, SetPrimary}

-- the key at a position is the first one with an id
pub record FirstWith (id i : ℕ) (ks : List KeyMeaning) : Type 0 where
  pub within : i < length ks
  pub has : (key_at ks i).key_id ≡ id
  pub first : (j : ℕ) → j < i → (key_at ks j).key_id ≢ id

-- no key has an id
abbrev pub NoneWith : ℕ → List KeyMeaning → Type 0
NoneWith id ks = (j : ℕ) → j < length ks → (key_at ks j).key_id ≢ id

-- what is looked for is the first key with the id
pub record FindsFirst : Type 0 where
  pub finds : (id i : ℕ) (ks : List KeyMeaning) → position_of id ks ≡ Some i → FirstWith id i ks
  pub found : (id i : ℕ) (ks : List KeyMeaning) → FirstWith id i ks → position_of id ks ≡ Some i
  pub misses : (id : ℕ) (ks : List KeyMeaning) → position_of id ks ≡ None → NoneWith id ks
  pub missed : (id : ℕ) (ks : List KeyMeaning) → NoneWith id ks → position_of id ks ≡ None

-- a refused edit leaves the keyset as it was
abbrev pub RefusedChangesNothing : Type 0
RefusedChangesNothing = (e : Edit) (id : ℕ) (s : KeysetMeaning) (f : Fault) → (edited e id s).answer ≡ Err f → (edited e id s).keyset ≡ s

-- the key at a position became another one, and every other key stays where it is
pub record Changed (i : ℕ) (k : KeyMeaning) (ks ls : List KeyMeaning) : Type 0 where
  pub count : length ls ≡ length ks
  pub key : key_at ls i ≡ k
  pub others : (j : ℕ) → (j ≢ i) → key_at ls j ≡ key_at ks j

-- the key at a position left, and those after it moved up
pub record Left (i : ℕ) (ks ls : List KeyMeaning) : Type 0 where
  pub count : length ls + 1 ≡ length ks
  pub before : (j : ℕ) → j < i → key_at ls j ≡ key_at ks j
  pub after : (j : ℕ) → i ≤ j → key_at ls j ≡ key_at ks (j + 1)

abbrev pub Touched : Edit → ℕ → List KeyMeaning → List KeyMeaning → Type 0
Touched Enable i ks ls = Changed i (key_after Enable (key_at ks i)) ks ls
Touched Disable i ks ls = Changed i (key_after Disable (key_at ks i)) ks ls
Touched Destroy i ks ls = Changed i (key_after Destroy (key_at ks i)) ks ls
Touched Delete i ks ls = Left i ks ls
Touched SetPrimary i ks ls = ls ≡ ks

-- an accepted edit touches the first key with the id and no other; only set primary touches the primary id
abbrev pub TouchesOneKey : Type 0
TouchesOneKey = (e : Edit) (id : ℕ) (s : KeysetMeaning) → (edited e id s).answer ≡ Ok tt
    → (i : ℕ) × FirstWith id i s.keys × Touched e i s.keys (edited e id s).keyset.keys
    × ((edited e id s).keyset.primary_key_id ≡ primary_after e id s.primary_key_id)

-- an Enabled key that is disabled and then enabled: the very keyset is back
abbrev pub DisabledAndEnabled : Type 0
DisabledAndEnabled = (id i : ℕ) (s : KeysetMeaning) → FirstWith id i s.keys → status_of (key_at s.keys i).status ≡ Some Enabled
    → (edited Disable id s).answer ≡ Ok tt → edited Enable id (edited Disable id s).keyset ≡ accepted s

-- the key data, key by key
abbrev pub data_of : List KeyMeaning → List (Option KeyDataMeaning)
data_of ks = map (λ (k : KeyMeaning). k.key_data) ks

abbrev pub data_after : Edit → ℕ → List (Option KeyDataMeaning) → List (Option KeyDataMeaning)
data_after Enable i ds = ds
data_after Disable i ds = ds
data_after Destroy i ds = slice_set ds i None
data_after Delete i ds = take i ds ++ drop (i + 1) ds
data_after SetPrimary i ds = ds

-- destroy drops the data of its key, delete lets its key go with its data, and no other edit touches data
abbrev pub OnlyDestroyDropsData : Type 0
OnlyDestroyDropsData = (e : Edit) (id : ℕ) (s : KeysetMeaning) → (edited e id s).answer ≡ Ok tt
    → (i : ℕ) × FirstWith id i s.keys × (data_of (edited e id s).keyset.keys ≡ data_after e i (data_of s.keys))

-- no two keys have one id
abbrev pub DistinctIds : List KeyMeaning → Type 0
DistinctIds ks = (i j : ℕ) → i < length ks → j < length ks → (key_at ks i).key_id ≡ (key_at ks j).key_id → i ≡ j

abbrev pub IdsStayDistinct : Type 0
IdsStayDistinct = (e : Edit) (id : ℕ) (s : KeysetMeaning) → DistinctIds s.keys → DistinctIds (edited e id s).keyset.keys
