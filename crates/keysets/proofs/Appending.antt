-- A key at the end of a keyset.
use Rattle.std.proofs.Common.{◌≡◌, ℕ, ◌<◌, ◌≤◌, Bool, cond, leb, List, [], ◌∷◌, ◌++◌, map, length, Ok, Err, Result, sym, ap, ◌∙◌, arith, MatchResult}
use Rattle.std.proofs.lemmas.List.{map_push}
use Rattle.std.proofs.lemmas.Bool.{cond-true, cond-false, le-leb, lt-leb}
use Rattle.ciphers.specs.Faults.{fault}
use Rattle.ciphers.specs.declared.fault.Fault.{Fault}
use Rattle.ciphers.specs.declared.fault.Layer.TheVariants.{Manager}
use Rattle.ciphers.specs.declared.fault.Refusal.TheVariants.{KeysetFull}
use Rattle.encoding.specs.Meanings.{KeyTemplateMeaning, KeyMeaning, KeysetMeaning}
use Rattle.encoding.specs.Views.{key_view}
use Rattle.encoding.specs.declared.records.Key.{Key}
use Rattle.keysets.specs.Adding.{with_key, added_key, added, made_key, words_made}
use Rattle.keysets.specs.Registries.{Managing}

-- a push where there is room
pub pushed_there : (r : Result (Unit {0}) Fault) (old new : List Key) (k : Key) (F : Fault → Type 0) (G : Type 0) → length old < 16
    → MatchResult r (λ _. (length old < 16) × (new ≡ old ++ (k ∷ []))) (λ f. F f × (length old ≡ 16) × G) → new ≡ old ++ (k ∷ [])
pushed_there (Ok u) old new k F G room h = h.1
pushed_there (Err f) old new k F G room h = let full = h.1 in absurd (omega arith)

pub appended : (b : Bool) (k : Key) (old new : List Key) (p q : ℕ) → new ≡ old ++ (k ∷ []) → q ≡ cond b k.key_id p
    → ◌≡◌ {A = KeysetMeaning} (record { primary_key_id = q; keys = map key_view new }) (with_key b (key_view k) (record { primary_key_id = p; keys = map key_view old }))
appended b k old new p q at primary =
    ap (λ (l : List Key). record { primary_key_id = q; keys = map key_view l }) at ∙
    (ap (λ (l : List KeyMeaning). record { primary_key_id = q; keys = l }) (map_push key_view old k) ∙
    ap (λ (n : ℕ). record { primary_key_id = n; keys = map key_view old ++ (key_view k ∷ []) }) primary)

module _ {P : Type 0} (ms : List (Managing P)) (t : KeyTemplateMeaning) (b : Bool) (s : KeysetMeaning) (ws : List ℕ) where
  pub added_full : 16 ≤ length s.keys → added ms t b s ws ≡ record { keyset = s; words = ws; answer = Err (fault KeysetFull Manager) }
  unfolding added
  added_full h = cond-true (leb 16 (length s.keys)) _ _ (le-leb 16 (length s.keys) h)

  pub added-made : (r : Result KeyMeaning Fault) (left : List ℕ) → length s.keys < 16 → r ≡ made_key ms t s.keys ws → left ≡ words_made ms t s.keys ws
      → added_key b s left r ≡ added ms t b s ws
  unfolding added
  added-made r left h key words =
      ap (λ (l : List ℕ). added_key b s l r) words ∙
      (ap (added_key b s (words_made ms t s.keys ws)) key ∙ sym (cond-false (leb 16 (length s.keys)) _ _ (lt-leb 16 (length s.keys) h)))
