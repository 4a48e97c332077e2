-- What holds of the edits, for every keyset.
use Rattle.std.proofs.Common.{◌≡◌, ℕ, ◌+◌, ◌<◌, ◌≤◌, true, false, ◌⊎◌, List, ◌++◌, length, take, drop, set, Some, None, Ok, Err, Option, sym, refl, ap, ◌∙◌, subst, inl, inr, arith}
use Rattle.std.proofs.lemmas.List.{length-set, length-take-le, get_or-set_same, get_or-set_other, get_or_append_left, get_or-take, set-get_or, map-set, map-append, take-map, drop-map, get_or-map}
use Rattle.std.proofs.lemmas.Bool.{cases_Bool, cases_lt, cases_eq}
use Rattle.ciphers.specs.declared.fault.Fault.{Fault}
use Rattle.encoding.specs.ListsLemmas.{without-length, without_at}
use Rattle.encoding.specs.Meanings.{KeyMeaning, KeyDataMeaning, KeysetMeaning}
use Rattle.keysets.specs.Answering.{Answer}
use Rattle.keysets.specs.Claims.{FirstWith, Changed, Left, Touched, TouchesOneKey, RefusedChangesNothing, data_of, data_after, OnlyDestroyDropsData, DistinctIds, IdsStayDistinct}
use Rattle.encoding.specs.Kinds.{status_of}
use Rattle.keysets.specs.Edits.{blank_key, key_at, position_of, takes, key_after, keys_after, keyset_after, spared_in, Edited, refused, accepted, edited, key_is_primary, key_not_found, status_bars}
use Rattle.keysets.specs.declared.manager.Edit.{Edit}
use Rattle.keysets.specs.declared.manager.Edit.TheVariants.{Enable, Disable, Destroy, Delete, SetPrimary}
use Rattle.keysets.proofs.Editing.{edited_spared, edited_missing, edited-barred, edited-taken}
use Rattle.keysets.proofs.Positions.{position-finds}

-- the first key with an id takes an edit
pub record Took (e : Edit) (id i : ℕ) (s : KeysetMeaning) : Type 0 where
  pub free : spared_in e id s ≡ false
  pub first : FirstWith id i s.keys
  pub takes_it : takes e (status_of (key_at s.keys i).status) ≡ true
  pub is : edited e id s ≡ accepted (keyset_after e id i (key_after e (key_at s.keys i)) s)

-- an edit is refused, and nothing changes, or a key takes it
pub edit_ways : (e : Edit) (id : ℕ) (s : KeysetMeaning) → ((f : Fault) × (edited e id s ≡ refused s f)) ⊎ ((i : ℕ) × Took e id i s)
edit_ways e id s = elim (cases_Bool (spared_in e id s)) [ inl b ↦ inl (key_is_primary, edited_spared e id s b) | inr b ↦ found (position_of id s.keys) refl b ]
  where
    at : (i : ℕ) → position_of id s.keys ≡ Some i → spared_in e id s ≡ false → ((f : Fault) × (edited e id s ≡ refused s f)) ⊎ ((i : ℕ) × Took e id i s)
    at i p b = elim (cases_Bool (takes e (status_of (key_at s.keys i).status))) [
      | inl t ↦ inr (i, record { free = b; first = position-finds id i s.keys p; takes_it = t; is = edited-taken e id i s b p t })
      | inr t ↦ inl (status_bars i, edited-barred e id i s b p t)
    ]

    found : (o : Option ℕ) → position_of id s.keys ≡ o → spared_in e id s ≡ false → ((f : Fault) × (edited e id s ≡ refused s f)) ⊎ ((i : ℕ) × Took e id i s)
    found None p b = inl (key_not_found, edited_missing e id s b p)
    found (Some i) p b = at i p b

answer_of : (x y : Edited) → x ≡ y → x.answer ≡ y.answer
answer_of x y e = ap (λ (z : Edited). z.answer) e

keyset_of_lem : (x y : Edited) → x ≡ y → x.keyset ≡ y.keyset
keyset_of_lem x y e = ap (λ (z : Edited). z.keyset) e

never_both : (a : Answer) (f : Fault) → a ≡ Ok tt → a ≡ Err f → ⊥
never_both a f p q = let z : ◌≡◌ {A = ℕ} 0 1 = cc in omega arith

pub refused_changes_nothing : RefusedChangesNothing
refused_changes_nothing e id s f r = elim (edit_ways e id s) [
  | inl w ↦ keyset_of_lem _ _ w.1
  | inr w ↦ absurd (never_both _ f (answer_of _ _ w.1.is) r)
]

pub took : (e : Edit) (id : ℕ) (s : KeysetMeaning) → (edited e id s).answer ≡ Ok tt → (i : ℕ) × Took e id i s
took e id s r = elim (edit_ways e id s) [ inl w ↦ absurd (never_both _ w.0 r (answer_of _ _ w.1)) | inr w ↦ w ]

changed : (i : ℕ) (k : KeyMeaning) (ks : List KeyMeaning) → i < length ks → Changed i k ks (set ks i k)
changed i k ks l = record { count = length-set ks i k; key = get_or-set_same ks i k blank_key l; others = λ j ne. get_or-set_other ks i j k blank_key ne }

left : (i : ℕ) (ks : List KeyMeaning) → i < length ks → Left i ks (take i ks ++ drop (i + 1) ks)
left i ks l = record {
  count = without-length ks i l;
  before = λ j m. get_or_append_left (take i ks) (drop (i + 1) ks) blank_key j (omega (arith, length-take-le i ks (omega arith))) ∙ get_or-take i ks j blank_key m;
  after = λ j m. without_at ks i j blank_key m (omega arith);
}

touched : (e : Edit) (i : ℕ) (ks : List KeyMeaning) → i < length ks → Touched e i ks (keys_after e i (key_after e (key_at ks i)) ks)
touched Enable i ks l = changed i _ ks l
touched Disable i ks l = changed i _ ks l
touched Destroy i ks l = changed i _ ks l
touched Delete i ks l = left i ks l
touched SetPrimary i ks l = refl

pub touches_one_key : TouchesOneKey
touches_one_key e id s r =
    let w = took e id s r in
    let after = sym (keyset_of_lem _ _ w.1.is) in (
      w.0,
      w.1.first,
      subst (λ (t : KeysetMeaning). Touched e w.0 s.keys t.keys) after (touched e w.0 s.keys w.1.first.within),
      ap (λ (t : KeysetMeaning). t.primary_key_id) (sym after),
    )

-- the ids, by position, after an edit that keeps every key
same_ids : (i : ℕ) (k : KeyMeaning) (ks : List KeyMeaning) → i < length ks → k.key_id ≡ (key_at ks i).key_id → (j : ℕ) → (key_at (set ks i k) j).key_id ≡ (key_at ks j).key_id
same_ids i k ks l e j = elim (cases_eq j i) [
  | inl q ↦ ap (λ (n : ℕ). (key_at (set ks i k) n).key_id) q ∙ ap (λ (x : KeyMeaning). x.key_id) (get_or-set_same ks i k blank_key l) ∙ e ∙ ap (λ (n : ℕ). (key_at ks n).key_id) (sym q)
  | inr ne ↦ ap (λ (x : KeyMeaning). x.key_id) (get_or-set_other ks i j k blank_key ne)
]

distinct_set : (i : ℕ) (k : KeyMeaning) (ks : List KeyMeaning) → i < length ks → k.key_id ≡ (key_at ks i).key_id → DistinctIds ks → DistinctIds (set ks i k)
distinct_set i k ks l e d m n lm ln q =
    let len = length-set ks i k in
    d m n (omega arith) (omega arith) (sym (same_ids i k ks l e m) ∙ q ∙ same_ids i k ks l e n)

-- where a key that stays stood before one left
whence : (i : ℕ) (ks ls : List KeyMeaning) → i < length ks → Left i ks ls → (j : ℕ) → j < length ls
    → (m : ℕ) × (m < length ks) × (key_at ls j ≡ key_at ks m) × (((j < i) × (m ≡ j)) ⊎ ((i ≤ j) × (m ≡ j + 1)))
whence i ks ls l t j lj = elim (cases_lt j i) [
  | inl b ↦ (j, omega arith, t.before j b, inl (b, refl))
  | inr a ↦ (j + 1, omega (arith, t.count), t.after j a, inr (a, refl))
]

apart : (i j k m n : ℕ) → (((j < i) × (m ≡ j)) ⊎ ((i ≤ j) × (m ≡ j + 1))) → (((k < i) × (n ≡ k)) ⊎ ((i ≤ k) × (n ≡ k + 1))) → m ≡ n → j ≡ k
apart i j k m n (inl p) (inl q) e = omega (arith, p.0, p.1, q.0, q.1)
apart i j k m n (inl p) (inr q) e = omega (arith, p.0, p.1, q.0, q.1)
apart i j k m n (inr p) (inl q) e = omega (arith, p.0, p.1, q.0, q.1)
apart i j k m n (inr p) (inr q) e = omega (arith, p.0, p.1, q.0, q.1)

distinct_left : (i : ℕ) (ks ls : List KeyMeaning) → i < length ks → Left i ks ls → DistinctIds ks → DistinctIds ls
distinct_left i ks ls l t d j k lj lk q =
    let a = whence i ks ls l t j lj in
    let b = whence i ks ls l t k lk in
    apart i j k a.0 b.0 a.3 b.3 (d a.0 b.0 a.1 b.1 (ap (λ (x : KeyMeaning). x.key_id) (sym a.2) ∙ q ∙ ap (λ (x : KeyMeaning). x.key_id) b.2))

distinct_after : (e : Edit) (i : ℕ) (ks : List KeyMeaning) → i < length ks → DistinctIds ks → DistinctIds (keys_after e i (key_after e (key_at ks i)) ks)
distinct_after Enable i ks l d = distinct_set i _ ks l refl d
distinct_after Disable i ks l d = distinct_set i _ ks l refl d
distinct_after Destroy i ks l d = distinct_set i _ ks l refl d
distinct_after Delete i ks l d = distinct_left i ks _ l (left i ks l) d
distinct_after SetPrimary i ks l d = d

pub ids_stay_distinct : IdsStayDistinct
ids_stay_distinct e id s d = elim (edit_ways e id s) [
  | inl w ↦ subst (λ (t : KeysetMeaning). DistinctIds t.keys) (sym (keyset_of_lem _ _ w.1)) d
  | inr w ↦ subst (λ (t : KeysetMeaning). DistinctIds t.keys) (sym (keyset_of_lem _ _ w.1.is)) (distinct_after e w.0 s.keys w.1.first.within d)
]

-- a key's data, position by position
abbrev its_data : KeyMeaning → Option KeyDataMeaning
its_data k = k.key_data

data_set : (i : ℕ) (k : KeyMeaning) (ks : List KeyMeaning) → data_of (set ks i k) ≡ set (data_of ks) i k.key_data
data_set i k ks = map-set its_data ks i k

data_same : (i : ℕ) (k : KeyMeaning) (ks : List KeyMeaning) → i < length ks → k.key_data ≡ (key_at ks i).key_data → data_of (set ks i k) ≡ data_of ks
data_same i k ks l e = data_set i k ks ∙ ap (set (data_of ks) i) (e ∙ sym (get_or-map its_data ks i blank_key None l)) ∙ set-get_or (data_of ks) i None

data_after_lem : (e : Edit) (i : ℕ) (ks : List KeyMeaning) → i < length ks → data_of (keys_after e i (key_after e (key_at ks i)) ks) ≡ data_after e i (data_of ks)
data_after_lem Enable i ks l = data_same i _ ks l refl
data_after_lem Disable i ks l = data_same i _ ks l refl
data_after_lem Destroy i ks l = data_set i _ ks
data_after_lem Delete i ks l =
    map-append its_data (take i ks) (drop (i + 1) ks)
    ∙ ap (λ (ds : List (Option KeyDataMeaning)). ds ++ data_of (drop (i + 1) ks)) (sym (take-map its_data i ks))
    ∙ ap (λ (ds : List (Option KeyDataMeaning)). take i (data_of ks) ++ ds) (sym (drop-map its_data (i + 1) ks))
data_after_lem SetPrimary i ks l = refl

pub only_destroy_drops_data : OnlyDestroyDropsData
only_destroy_drops_data e id s r =
    let w = took e id s r in
    (w.0, w.1.first, ap (λ (t : KeysetMeaning). data_of t.keys) (keyset_of_lem _ _ w.1.is) ∙ data_after_lem e w.0 s.keys w.1.first.within)
