-- The four ways in which an edit ends.
use Rattle.std.proofs.Common.{◌≡◌, ℕ, ◌+◌, true, false, ◌⊎◌, List, map, take, drop, set, Some, None, Ok, Err, inl, inr, sym, refl, ap, ◌∙◌, arith}
use Rattle.std.proofs.lemmas.Bool.{cond-true, cond-false}
use Rattle.std.proofs.lemmas.List.{map-set, map-append, take-map, drop-map}
use Rattle.encoding.specs.Lists.{list}
use Rattle.encoding.specs.Views.{key_view, keyset_view}
use Rattle.encoding.specs.declared.records.Key.{Key}
use Rattle.encoding.specs.declared.records.Keyset.{Keyset}
use Rattle.encoding.specs.Meanings.{KeyMeaning, KeysetMeaning}
use Rattle.ciphers.specs.declared.fault.Fault.{Fault}
use Rattle.keysets.specs.Answering.{Answer}
use Rattle.encoding.specs.Kinds.{status_of}
use Rattle.keysets.specs.Edits.{key_at, position_of, takes, key_after, keys_after, primary_after, keyset_after, spared_in, Edited, refused, accepted, edited_at, edited_found, edited, key_is_primary, key_not_found, status_bars}
use Rattle.keysets.specs.declared.manager.Edit.{Edit}
use Rattle.keysets.specs.declared.manager.Edit.TheVariants.{Enable, Disable, Destroy, Delete, SetPrimary}

pub edited_spared : (e : Edit) (id : ℕ) (s : KeysetMeaning) → spared_in e id s ≡ true → edited e id s ≡ refused s key_is_primary
unfolding edited
edited_spared e id s b = cond-true (spared_in e id s) _ _ b

edited-past : (e : Edit) (id : ℕ) (s : KeysetMeaning) → spared_in e id s ≡ false → edited e id s ≡ edited_found e id s (position_of id s.keys)
unfolding edited
edited-past e id s b = cond-false (spared_in e id s) _ _ b

pub edited_missing : (e : Edit) (id : ℕ) (s : KeysetMeaning) → spared_in e id s ≡ false → position_of id s.keys ≡ None → edited e id s ≡ refused s key_not_found
edited_missing e id s b p = edited-past e id s b ∙ ap (edited_found e id s) p

pub edited-at : (e : Edit) (id i : ℕ) (s : KeysetMeaning) → spared_in e id s ≡ false → position_of id s.keys ≡ Some i → edited e id s ≡ edited_at e id i s
edited-at e id i s b p = edited-past e id s b ∙ ap (edited_found e id s) p

pub edited-barred : (e : Edit) (id i : ℕ) (s : KeysetMeaning) → spared_in e id s ≡ false → position_of id s.keys ≡ Some i
    → takes e (status_of (key_at s.keys i).status) ≡ false → edited e id s ≡ refused s (status_bars i)
edited-barred e id i s b p t = edited-at e id i s b p ∙ cond-false (takes e (status_of (key_at s.keys i).status)) _ _ t

pub edited-taken : (e : Edit) (id i : ℕ) (s : KeysetMeaning) → spared_in e id s ≡ false → position_of id s.keys ≡ Some i
    → takes e (status_of (key_at s.keys i).status) ≡ true → edited e id s ≡ accepted (keyset_after e id i (key_after e (key_at s.keys i)) s)
edited-taken e id i s b p t = edited-at e id i s b p ∙ cond-true (takes e (status_of (key_at s.keys i).status)) _ _ t

-- an edit that a call refused
pub as_refused : (e : Edit) (id : ℕ) (s : KeysetMeaning) (f g : Fault) (r : Answer) → edited e id s ≡ refused s g → r ≡ Err f → f ≡ g
    → (s ≡ (edited e id s).keyset) × (r ≡ (edited e id s).answer)
as_refused e id s f g r w q same = (ap (λ (x : Edited). x.keyset) (sym w), q ∙ ap Err same ∙ ap (λ (x : Edited). x.answer) (sym w))

-- and one that it did
pub as_accepted : (e : Edit) (id : ℕ) (s t : KeysetMeaning) → edited e id s ≡ accepted t → (t ≡ (edited e id s).keyset) × (Ok tt ≡ (edited e id s).answer)
as_accepted e id s t w = (ap (λ (x : Edited). x.keyset) (sym w), ap (λ (x : Edited). x.answer) (sym w))

pub keys_viewed : {K L : Type 0} (f : K → L) (e : Edit) (i : ℕ) (k : K) (ks : List K) → map f (keys_after e i k ks) ≡ keys_after e i (f k) (map f ks)
keys_viewed f Enable i k ks = map-set f ks i k
keys_viewed f Disable i k ks = map-set f ks i k
keys_viewed f Destroy i k ks = map-set f ks i k
keys_viewed f Delete i k ks = map-append f (take i ks) (drop (i + 1) ks) ∙ simp (take-map, drop-map)
keys_viewed f SetPrimary i k ks = refl

-- a keyset whose keys and primary id are those after an edit
pub keyset_viewed : (e : Edit) (id i : ℕ) (k : Key) (old new : Keyset) → list new.key ≡ keys_after e i k (list old.key) → new.primary_key_id ≡ primary_after e id old.primary_key_id
    → keyset_view new ≡ keyset_after e id i (key_view k) (keyset_view old)
keyset_viewed e id i k old new keys primary =
    ap (λ (n : ℕ). record { primary_key_id = n; keys = map key_view (list new.key) }) primary
    ∙ ap (λ (ks : List KeyMeaning). record { primary_key_id = primary_after e id old.primary_key_id; keys = ks }) (ap (map key_view) keys ∙ keys_viewed key_view e i k (list old.key))

-- the edits that change the key where it stands
pub changes_in_place : {K : Type 0} (e : Edit) (id i p : ℕ) (k : K) (ks : List K) → (e ≡ Enable) ⊎ ((e ≡ Disable) ⊎ (e ≡ Destroy)) → (keys_after e i k ks ≡ set ks i k) × (primary_after e id p ≡ p)
changes_in_place Enable id i p k ks w = (refl, refl)
changes_in_place Disable id i p k ks w = (refl, refl)
changes_in_place Destroy id i p k ks w = (refl, refl)
changes_in_place Delete id i p k ks (inl e) = absurd (let z : ◌≡◌ {A = ℕ} 0 1 = cc in omega arith)
changes_in_place Delete id i p k ks (inr (inl e)) = absurd (let z : ◌≡◌ {A = ℕ} 0 1 = cc in omega arith)
changes_in_place Delete id i p k ks (inr (inr e)) = absurd (let z : ◌≡◌ {A = ℕ} 0 1 = cc in omega arith)
changes_in_place SetPrimary id i p k ks (inl e) = absurd (let z : ◌≡◌ {A = ℕ} 0 1 = cc in omega arith)
changes_in_place SetPrimary id i p k ks (inr (inl e)) = absurd (let z : ◌≡◌ {A = ℕ} 0 1 = cc in omega arith)
changes_in_place SetPrimary id i p k ks (inr (inr e)) = absurd (let z : ◌≡◌ {A = ℕ} 0 1 = cc in omega arith)
