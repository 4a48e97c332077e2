-- An addition keeps ids distinct: the id that is drawn is no key's.
use Rattle.std.proofs.Common.{◌≡◌, ℕ, ◌<◌, Bool, true, false, cond, leb, List, [], ◌∷◌, ◌++◌, length, is_some, Some, None, Ok, Err, Option, Result, sym, refl, ap, ◌∙◌, subst, inl, inr, arith}
use Rattle.std.specs.Option.{option_map}
use Rattle.std.proofs.lemmas.List.{length-append, get_or_append_left, get_or_at}
use Rattle.std.proofs.lemmas.Bool.{cases_eq}
use Rattle.ciphers.specs.declared.fault.Fault.{Fault}
use Rattle.encoding.specs.Meanings.{KeyDataMeaning, KeyTemplateMeaning, KeyMeaning, KeysetMeaning}
use Rattle.keysets.specs.Adding.{DrawnId, one_more, is_present, drawn_id, key_with, key_of, made_key, Added, added_key, added}
use Rattle.keysets.specs.Claims.{NoneWith, DistinctIds}
use Rattle.keysets.specs.Edits.{blank_key, key_at, position_of}
use Rattle.encoding.specs.Kinds.{prefix_of}
use Rattle.keysets.specs.Registries.{Managing, found, new_key_data_by, words_by}
use Rattle.keysets.proofs.Positions.{position-misses}

-- what is said of an id that was drawn, where one was
abbrev Free : List KeyMeaning → Option DrawnId → Type 0
Free ks None = Unit {0}
Free ks (Some d) = NoneWith d.id ks

free_more : (ks : List KeyMeaning) (o : Option DrawnId) → Free ks o → Free ks (option_map one_more o)
free_more ks None f = tt
free_more ks (Some d) f = f

absent : (id : ℕ) (ks : List KeyMeaning) (o : Option ℕ) → position_of id ks ≡ o → is_some o ≡ false → NoneWith id ks
absent id ks None e n = position-misses id ks e
absent id ks (Some i) e n = let z : ◌≡◌ {A = ℕ} 0 1 = ap (λ (b : Bool). cond b 0 1) n in absurd (omega arith)

free_step : (ks : List KeyMeaning) (w : ℕ) (o : Option DrawnId) (b : Bool) → is_present w ks ≡ b → Free ks o
    → Free ks (cond b (option_map one_more o) (Some (record { id = w; taken = 1 })))
free_step ks w o true e f = free_more ks o f
free_step ks w o false e f = absent w ks (position_of w ks) refl e

drawn_free : (ks : List KeyMeaning) (ws : List ℕ) → Free ks (drawn_id ks ws)
drawn_free ks [] = tt
drawn_free ks (w ∷ ws) = free_step ks w (drawn_id ks ws) (is_present w ks) refl (drawn_free ks ws)

-- a key that was made has an id that was free
tested_free : (ks : List KeyMeaning) (b : Bool) (n : KeyMeaning) (f : Fault) (k : KeyMeaning) → NoneWith n.key_id ks → ◌≡◌ {A = Result KeyMeaning Fault} (cond b (Ok n) (Err f)) (Ok k)
    → NoneWith k.key_id ks
tested_free ks true n f k h e = let same : n ≡ k = cc in subst (λ (x : KeyMeaning). NoneWith x.key_id ks) same h
tested_free ks false n f k h e = let z : ◌≡◌ {A = ℕ} 0 1 = cc in absurd (omega arith)

with_free : (t : KeyTemplateMeaning) (ks : List KeyMeaning) (d : KeyDataMeaning) (o : Option DrawnId) (k : KeyMeaning) → Free ks o → key_with t d o ≡ Ok k → NoneWith k.key_id ks
with_free t ks d None k h e = let z : ◌≡◌ {A = ℕ} 0 1 = cc in absurd (omega arith)
with_free t ks d (Some i) k h e = tested_free ks (is_some (prefix_of t.output_prefix_type)) _ _ k h e

of_free : (t : KeyTemplateMeaning) (ks : List KeyMeaning) (ws : List ℕ) (r : Result KeyDataMeaning Fault) (k : KeyMeaning) → key_of t ks ws r ≡ Ok k → NoneWith k.key_id ks
of_free t ks ws (Err f) k e = let z : ◌≡◌ {A = ℕ} 0 1 = cc in absurd (omega arith)
of_free t ks ws (Ok d) k e = with_free t ks d (drawn_id ks ws) k (drawn_free ks ws) e

-- a key with a free id at the end
module _ (ks : List KeyMeaning) (k : KeyMeaning) where
  at_old : (i : ℕ) → i < length ks → key_at (ks ++ (k ∷ [])) i ≡ key_at ks i
  at_old i l = get_or_append_left ks (k ∷ []) blank_key i l

  at_new : (i : ℕ) → i ≡ length ks → key_at (ks ++ (k ∷ [])) i ≡ k
  at_new i e = get_or_at ks k [] blank_key i (sym e)

  distinct-appended : DistinctIds ks → NoneWith k.key_id ks → DistinctIds (ks ++ (k ∷ []))
  distinct-appended d n i j li lj q =
      let len = length-append ks (k ∷ []) in
      elim (cases_eq i (length ks)) [
        | inl ei ↦ elim (cases_eq j (length ks)) [
          | inl ej ↦ ei ∙ sym ej
          | inr nj ↦ let l : j < length ks = omega arith in
              absurd (n j l (ap (λ (x : KeyMeaning). x.key_id) (sym (at_old j l)) ∙ sym q ∙ ap (λ (x : KeyMeaning). x.key_id) (at_new i ei)))
        ]
        | inr ni ↦ let l : i < length ks = omega arith in elim (cases_eq j (length ks)) [
          | inl ej ↦ absurd (n i l (ap (λ (x : KeyMeaning). x.key_id) (sym (at_old i l)) ∙ q ∙ ap (λ (x : KeyMeaning). x.key_id) (at_new j ej)))
          | inr nj ↦ let m : j < length ks = omega arith in
              d i j l m (ap (λ (x : KeyMeaning). x.key_id) (sym (at_old i l)) ∙ q ∙ ap (λ (x : KeyMeaning). x.key_id) (at_old j m))
        ]
      ]

key_distinct : (b : Bool) (s : KeysetMeaning) (ws : List ℕ) (r : Result KeyMeaning Fault) → ((k : KeyMeaning) → r ≡ Ok k → NoneWith k.key_id s.keys) → DistinctIds s.keys
    → DistinctIds (added_key b s ws r).keyset.keys
key_distinct b s ws (Err f) h d = d
key_distinct b s ws (Ok k) h d = distinct-appended s.keys k d (h k refl)

either_distinct : (c : Bool) (x y : Added) → DistinctIds x.keyset.keys → DistinctIds y.keyset.keys → DistinctIds (cond c x y).keyset.keys
either_distinct true x y f g = f
either_distinct false x y f g = g

pub added_distinct : {P : Type 0} (ms : List (Managing P)) (t : KeyTemplateMeaning) (b : Bool) (s : KeysetMeaning) (ws : List ℕ) → DistinctIds s.keys → DistinctIds (added ms t b s ws).keyset.keys
unfolding added
added_distinct ms t b s ws d =
    let m = found t.type_url ms in
    either_distinct (leb 16 (length s.keys)) _ _ d
    (key_distinct b s _ (made_key ms t s.keys ws) (λ k e. of_free t s.keys (words_by m t.value ws) (new_key_data_by m t.value ws) k e) d)
