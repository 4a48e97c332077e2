-- An id drawn word by word.
use Rattle.std.proofs.Common.{◌≡◌, ℕ, suc, ◌+◌, min, true, false, List, [], ◌∷◌, drop, Some, None, Ok, Err, Option, Result, sym, refl, ap, ◌∙◌, zero-add, arith}
use Rattle.std.specs.Option.{option_map}
use Rattle.std.proofs.lemmas.List.{drop-drop}
use Rattle.std.proofs.lemmas.Bool.{cond-true, cond-false}
use Rattle.ciphers.specs.Drawn.{first_word, other_words}
use Rattle.ciphers.specs.declared.fault.Fault.{Fault}
use Rattle.encoding.specs.Meanings.{KeyMeaning}
use Rattle.keysets.specs.Adding.{DrawnId, one_more, is_present, drawn_id, counted}

-- the same id, after k more words
abbrev pub later : ℕ → DrawnId → DrawnId
later k d = record { id = d.id; taken = k + d.taken }

pub later_none : (o : Option DrawnId) → option_map (later 0) o ≡ o
later_none None = refl
later_none (Some d) = ap (λ (n : ℕ). Some (record { id = d.id; taken = n })) (zero-add d.taken)

later_more : (k : ℕ) (o : Option DrawnId) → option_map (later k) (option_map one_more o) ≡ option_map (later (k + 1)) o
later_more k None = refl
later_more k (Some d) = let e : k + suc d.taken ≡ k + 1 + d.taken = omega arith in ap (λ (n : ℕ). Some (record { id = d.id; taken = n })) e

-- a source from which a word came, and one from which none did
pub drew : (ws : List ℕ) (w : ℕ) → ◌≡◌ {A = Result ℕ Fault} (Ok w) (first_word ws) → ws ≡ w ∷ other_words ws
drew [] w e = let z : ◌≡◌ {A = ℕ} 0 1 = cc in absurd (omega arith)
drew (v ∷ ws) w e = let same : v ≡ w = cc in ap (λ (x : ℕ). x ∷ ws) same

pub dried : (ws : List ℕ) (f : Fault) → ◌≡◌ {A = Result ℕ Fault} (Err f) (first_word ws) → ws ≡ []
dried [] f e = refl
dried (v ∷ ws) f e = let z : ◌≡◌ {A = ℕ} 0 1 = cc in absurd (omega arith)

module _ (ks : List KeyMeaning) (all now after : List ℕ) (k w : ℕ)
    (left : now ≡ drop k all) (so_far : drawn_id ks all ≡ option_map (later k) (drawn_id ks now)) (here : now ≡ w ∷ after) where
  pub left-more : after ≡ drop (k + 1) all
  left-more = ap (drop 1) (sym here ∙ left) ∙ drop-drop 1 k all

  pub passed : is_present w ks ≡ true → drawn_id ks all ≡ option_map (later (k + 1)) (drawn_id ks after)
  passed e =
      so_far ∙ (ap (λ (l : List ℕ). option_map (later k) (drawn_id ks l)) here ∙
      (ap (option_map (later k)) (cond-true (is_present w ks) _ _ e) ∙ later_more k (drawn_id ks after)))

  pub taken : is_present w ks ≡ false → drawn_id ks all ≡ Some (record { id = w; taken = k + 1 })
  taken e = so_far ∙ (ap (λ (l : List ℕ). option_map (later k) (drawn_id ks l)) here ∙ ap (option_map (later k)) (cond-false (is_present w ks) _ _ e))

pub counted_more : (k n : ℕ) → n ≡ counted k → min (n + 1) 18446744073709551615 ≡ counted (k + 1)
counted_more k n e = omega arith
