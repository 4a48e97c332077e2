-- The position of the first key with an id.
use Rattle.std.proofs.Common.{◌≡◌, ℕ, zero, suc, ◌+◌, ◌<◌, ◌≤◌, cond, eqb, List, [], ◌∷◌, length, get_or, drop, set, Some, None, Option, sym, refl, ap, ◌∙◌, subst, inl, inr, arith}
use Rattle.std.specs.Option.{option_map}
use Rattle.std.proofs.lemmas.List.{at_drop_more, at_drop_all}
use Rattle.std.proofs.lemmas.Bool.{eq-eqb, ne_eqb, cases_eq, cond-true, cond-false}
use Rattle.encoding.specs.Meanings.{KeyMeaning}
use Rattle.keysets.specs.Claims.{FirstWith, NoneWith}
use Rattle.keysets.specs.Edits.{key_at, position_of}

-- a position counted from another one
abbrev pub from : ℕ → Option ℕ → Option ℕ
from i o = option_map (λ n. i + n) o

pub from_zero : (o : Option ℕ) → from 0 o ≡ o
from_zero None = refl
from_zero (Some n) = ap Some (let e : 0 + n ≡ n = omega arith in e)

from_suc : (i : ℕ) (o : Option ℕ) → from i (option_map suc o) ≡ from (i + 1) o
from_suc i None = refl
from_suc i (Some n) = ap Some (let e : i + suc n ≡ (i + 1) + n = omega arith in e)

-- what a loop over the keys knows of the position at each turn
pub position-found : (id i : ℕ) (ks : List KeyMeaning) (k : KeyMeaning) → i < length ks → get_or ks i k ≡ k → k.key_id ≡ id → from i (position_of id (drop i ks)) ≡ Some i
position-found id i ks k l at e =
    at_drop_more (λ xs. from i (position_of id xs)) ks i k l
    ∙ ap (λ (x : KeyMeaning). from i (position_of id (x ∷ drop (i + 1) ks))) at
    ∙ ap (from i) (cond-true (eqb k.key_id id) (Some 0) (option_map suc (position_of id (drop (i + 1) ks))) (eq-eqb k.key_id id e))
    ∙ ap Some (let z : i + 0 ≡ i = omega arith in z)

pub position_later : (id i : ℕ) (ks : List KeyMeaning) (k : KeyMeaning) → i < length ks → get_or ks i k ≡ k → (k.key_id ≡ id → ⊥) → from i (position_of id (drop i ks)) ≡ from (i + 1) (position_of id (drop (i + 1) ks))
position_later id i ks k l at e =
    at_drop_more (λ xs. from i (position_of id xs)) ks i k l
    ∙ ap (λ (x : KeyMeaning). from i (position_of id (x ∷ drop (i + 1) ks))) at
    ∙ ap (from i) (cond-false (eqb k.key_id id) (Some 0) (option_map suc (position_of id (drop (i + 1) ks))) (ne_eqb k.key_id id e))
    ∙ from_suc i (position_of id (drop (i + 1) ks))

pub position_past : (id i : ℕ) (ks : List KeyMeaning) → length ks ≤ i → from i (position_of id (drop i ks)) ≡ None
position_past id i ks l = at_drop_all (λ xs. from i (position_of id xs)) ks i l

-- no key of a list has the id at its head
abbrev other : ℕ → KeyMeaning → Type 0
other id k = k.key_id ≡ id → ⊥

position_here : (id : ℕ) (k : KeyMeaning) (ks : List KeyMeaning) → k.key_id ≡ id → position_of id (k ∷ ks) ≡ Some 0
position_here id k ks e = cond-true (eqb k.key_id id) (Some 0) (option_map suc (position_of id ks)) (eq-eqb k.key_id id e)

position_beyond : (id : ℕ) (k : KeyMeaning) (ks : List KeyMeaning) → other id k → position_of id (k ∷ ks) ≡ option_map suc (position_of id ks)
position_beyond id k ks e = cond-false (eqb k.key_id id) (Some 0) (option_map suc (position_of id ks)) (ne_eqb k.key_id id e)

next_of : (o : Option ℕ) (i : ℕ) → option_map suc o ≡ Some i → (n : ℕ) × (o ≡ Some n) × (suc n ≡ i)
next_of None i e = let z : ◌≡◌ {A = ℕ} 0 1 = cc in absurd (omega arith)
next_of (Some n) i e = (n, refl, cc)

none_of : (o : Option ℕ) → option_map suc o ≡ None → o ≡ None
none_of None e = refl
none_of (Some n) e = let z : ◌≡◌ {A = ℕ} 0 1 = cc in absurd (omega arith)

first-here : (id : ℕ) (k : KeyMeaning) (ks : List KeyMeaning) → k.key_id ≡ id → FirstWith id 0 (k ∷ ks)
first-here id k ks e = record { within = omega arith; has = e; first = λ j l _. omega arith }

first_beyond : (id i : ℕ) (k : KeyMeaning) (ks : List KeyMeaning) → other id k → FirstWith id i ks → FirstWith id (suc i) (k ∷ ks)
first_beyond id i k ks ne f = record { within = omega (arith, f.within); has = f.has; first = before }
  where
    before : (j : ℕ) → j < suc i → (key_at (k ∷ ks) j).key_id ≡ id → ⊥
    before zero l e = ne e
    before (suc j) l e = f.first j (omega arith) e

pub position-finds : (id i : ℕ) (ks : List KeyMeaning) → position_of id ks ≡ Some i → FirstWith id i ks
position-finds id i [] e = let z : ◌≡◌ {A = ℕ} 0 1 = cc in absurd (omega arith)
position-finds id i (k ∷ ks) e = elim (cases_eq k.key_id id) [
  | inl same ↦ let zero_is : 0 ≡ i = let h = position_here id k ks same in cc in
      subst (λ (n : ℕ). FirstWith id n (k ∷ ks)) zero_is (first-here id k ks same)
  | inr ne ↦ let m = next_of (position_of id ks) i (sym (position_beyond id k ks ne) ∙ e) in
      subst (λ (n : ℕ). FirstWith id n (k ∷ ks)) m.2 (first_beyond id m.0 k ks ne (position-finds id m.0 ks m.1))
]

pub position_found_by : (id i : ℕ) (ks : List KeyMeaning) → FirstWith id i ks → position_of id ks ≡ Some i
position_found_by id i [] f = absurd (omega (arith, f.within))
position_found_by id zero (k ∷ ks) f = position_here id k ks f.has
position_found_by id (suc i) (k ∷ ks) f =
    position_beyond id k ks (f.first 0 (omega arith))
    ∙ ap (option_map suc) (position_found_by id i ks (record { within = omega (arith, f.within); has = f.has; first = λ j l e. f.first (suc j) (omega arith) e }))

pub position-misses : (id : ℕ) (ks : List KeyMeaning) → position_of id ks ≡ None → NoneWith id ks
position-misses id [] e = λ j l h. omega arith
position-misses id (k ∷ ks) e = elim (cases_eq k.key_id id) [
  | inl same ↦ let z : ◌≡◌ {A = ℕ} 0 1 = let h = position_here id k ks same in cc in absurd (omega arith)
  | inr ne ↦ beyond ne (position-misses id ks (none_of (position_of id ks) (sym (position_beyond id k ks ne) ∙ e)))
]
  where
    beyond : other id k → NoneWith id ks → NoneWith id (k ∷ ks)
    beyond ne none zero l h = ne h
    beyond ne none (suc j) l h = none j (omega arith) h

pub position-missed : (id : ℕ) (ks : List KeyMeaning) → NoneWith id ks → position_of id ks ≡ None
position-missed id [] none = refl
position-missed id (k ∷ ks) none =
    position_beyond id k ks (none 0 (omega arith)) ∙ ap (option_map suc) (position-missed id ks (λ j l e. none (suc j) (omega arith) e))

-- a key that keeps its id is found where it was
pub position-set : (id i : ℕ) (ks : List KeyMeaning) (k : KeyMeaning) → k.key_id ≡ (key_at ks i).key_id → position_of id (set ks i k) ≡ position_of id ks
position-set id i [] k e = refl
position-set id zero (x ∷ xs) k e = ap (λ (n : ℕ). cond (eqb n id) (Some 0) (option_map suc (position_of id xs))) e
position-set id (suc i) (x ∷ xs) k e = ap (λ (o : Option ℕ). cond (eqb x.key_id id) (Some 0) (option_map suc o)) (position-set id i xs k e)
