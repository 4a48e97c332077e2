-- The check accepts if every key passes, and else refuses at the first that does not.
use Rattle.std.proofs.Common.{◌≡◌, ℕ, zero, suc, ◌+◌, ◌<◌, List, [], ◌∷◌, length, Ok, Err, sym, refl, ap, ◌∙◌, arith}
use Rattle.ciphers.specs.declared.fault.Fault.{Fault}
use Rattle.encoding.specs.Meanings.{KeyMeaning}
use Rattle.keysets.specs.Answering.{Answer, at_place, and_then}
use Rattle.keysets.specs.Checks.{checked_key, each_key, checked}
use Rattle.keysets.specs.Edits.{key_at}
use Rattle.keysets.specs.Validity.{ChecksInOrder}
use Rattle.keysets.proofs.Answers.{ok_both, ok_place}

abbrev Passes : (KeyMeaning → Answer) → ℕ → List KeyMeaning → Type 0
Passes test n ks = (j : ℕ) → j < n → test (key_at ks j) ≡ Ok tt

pub each-accepts : (test : KeyMeaning → Answer) (p : ℕ) (ks : List KeyMeaning) → Passes test (length ks) ks → each_key test p ks ≡ Ok tt
each-accepts test p [] h = refl
each-accepts test p (k ∷ ks) h = ok_both _ _ (ok_place p (test k) (h 0 (omega arith))) (each-accepts test (p + 1) ks (λ j l. h (suc j) (omega arith)))

-- a refusal at a key, counted from a position
abbrev RefusedAt : (KeyMeaning → Answer) → ℕ → List KeyMeaning → Fault → ℕ → Type 0
RefusedAt test p ks f i = (i < length ks) × (at_place (p + i) (test (key_at ks i)) ≡ Err f) × Passes test i ks

here : (test : KeyMeaning → Answer) (p : ℕ) (k : KeyMeaning) (ks : List KeyMeaning) (f : Fault) → at_place p (test k) ≡ Err f → RefusedAt test p (k ∷ ks) f 0
here test p k ks f e = (omega arith, ap (λ (n : ℕ). at_place n (test k)) (let z : p + 0 ≡ p = omega arith in z) ∙ e, λ j l. absurd (omega arith))

beyond : (test : KeyMeaning → Answer) (p : ℕ) (k : KeyMeaning) (ks : List KeyMeaning) (f : Fault) (i : ℕ) → test k ≡ Ok tt → RefusedAt test (p + 1) ks f i → RefusedAt test p (k ∷ ks) f (suc i)
beyond test p k ks f i ok r = (omega (arith, r.0), ap (λ (n : ℕ). at_place n (test (key_at ks i))) (let z : p + suc i ≡ (p + 1) + i = omega arith in z) ∙ r.1, passes)
  where
    passes : Passes test (suc i) (k ∷ ks)
    passes zero l = ok
    passes (suc j) l = r.2 j (omega arith)

pub each-refuses : (test : KeyMeaning → Answer) (p : ℕ) (ks : List KeyMeaning) (f : Fault) → each_key test p ks ≡ Err f → (i : ℕ) × RefusedAt test p ks f i
each-refuses test p [] f e = let z : ◌≡◌ {A = ℕ} 0 1 = cc in absurd (omega arith)
each-refuses test p (k ∷ ks) f e = go (test k) refl (each-refuses test (p + 1) ks f)
  where
    go : (a : Answer) → test k ≡ a → (each_key test (p + 1) ks ≡ Err f → (i : ℕ) × RefusedAt test (p + 1) ks f i) → (i : ℕ) × RefusedAt test p (k ∷ ks) f i
    go (Ok u) q rest = let r = rest (ap (λ (a : Answer). and_then (at_place p a) (each_key test (p + 1) ks)) (sym q) ∙ e) in (suc r.0, beyond test p k ks f r.0 q r.1)
    go (Err g) q rest = (0, here test p k ks f (ap (at_place p) q ∙ ap (λ (a : Answer). and_then (at_place p a) (each_key test (p + 1) ks)) (sym q) ∙ e))

pub checks_in_order : ChecksInOrder
unfolding checked
checks_in_order = record {
  accepts = λ s h. each-accepts checked_key 0 s.keys h;
  refuses = λ s f e. let r = each-refuses checked_key 0 s.keys f e in
      (r.0, r.1.0, ap (λ (n : ℕ). at_place n (checked_key (key_at s.keys r.0))) (let z : r.0 ≡ 0 + r.0 = omega arith in z) ∙ r.1.1, r.1.2);
}
