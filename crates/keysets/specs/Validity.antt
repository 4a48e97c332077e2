-- Which keysets pass validation and the check of handles, in the words of the rules and without an order of tests.
use Rattle.std.specs.Prelude.{◌≡◌, ℕ, ◌<◌, true, false, ◌⊎◌, List, length, is_some, Ok, Err}
use Rattle.ciphers.specs.declared.fault.Fault.{Fault}
use Rattle.encoding.specs.Meanings.{KeyMeaning, KeysetMeaning}
use Rattle.keysets.specs.Answering.{at_place}
use Rattle.keysets.specs.Checks.{checked_key, checked}
use Rattle.keysets.specs.Edits.{key_at}
use Rattle.encoding.specs.Kinds.{status_of, prefix_of}
use Rattle.keysets.specs.Validation.{enabled_key, primary_key, not_public_key, valid}

pub record ValidKey (k : KeyMeaning) : Type 0 where
  pub has_id : k.key_id ≡ 0 → ⊥
  pub has_data : is_some k.key_data ≡ true
  pub has_prefix : is_some (prefix_of k.output_prefix_type) ≡ true
  pub has_status : is_some (status_of k.status) ≡ true

-- no two Enabled keys have the primary id
abbrev pub OnePrimary : ℕ → List KeyMeaning → Type 0
OnePrimary p ks = (i j : ℕ) → i < length ks → j < length ks → primary_key p (key_at ks i) ≡ true → primary_key p (key_at ks j) ≡ true → i ≡ j

abbrev pub SomePrimary : ℕ → List KeyMeaning → Type 0
SomePrimary p ks = (j : ℕ) × (j < length ks) × (primary_key p (key_at ks j) ≡ true)

-- every Enabled key is public
abbrev pub AllPublic : List KeyMeaning → Type 0
AllPublic ks = (j : ℕ) → j < length ks → not_public_key (key_at ks j) ≡ false

pub record Valid (s : KeysetMeaning) : Type 0 where
  pub some_key : 0 < length s.keys
  pub each_key : (j : ℕ) → j < length s.keys → ValidKey (key_at s.keys j)
  pub one_primary : OnePrimary s.primary_key_id s.keys
  pub some_enabled : (j : ℕ) × (j < length s.keys) × (enabled_key (key_at s.keys j) ≡ true)
  pub primary_or_public : SomePrimary s.primary_key_id s.keys ⊎ AllPublic s.keys

pub record AcceptsTheValid : Type 0 where
  pub accepts : (s : KeysetMeaning) → Valid s → valid s ≡ Ok tt
  pub only : (s : KeysetMeaning) → valid s ≡ Ok tt → Valid s

-- the check accepts if every key passes, and else it refuses at the first key that does not
pub record ChecksInOrder : Type 0 where
  pub accepts : (s : KeysetMeaning) → ((j : ℕ) → j < length s.keys → checked_key (key_at s.keys j) ≡ Ok tt) → checked s ≡ Ok tt
  pub refuses : (s : KeysetMeaning) (f : Fault) → checked s ≡ Err f
      → (i : ℕ) × (i < length s.keys) × (at_place i (checked_key (key_at s.keys i)) ≡ Err f) × ((j : ℕ) → j < i → checked_key (key_at s.keys j) ≡ Ok tt)
