-- A test that goes key by key, at each turn of a loop.
use Rattle.std.proofs.Common.{◌≡◌, ℕ, ◌+◌, ◌<◌, ◌≤◌, List, ◌∷◌, length, get_or, drop, Ok, Err, sym, ap, ◌∙◌}
use Rattle.std.proofs.lemmas.List.{at_drop_more, at_drop_all}
use Rattle.ciphers.specs.declared.fault.Fault.{Fault}
use Rattle.encoding.specs.Meanings.{KeyMeaning}
use Rattle.keysets.specs.Answering.{Answer, at_place, and_then}
use Rattle.keysets.specs.Checks.{each_key}

each_next : (test : KeyMeaning → Answer) (i : ℕ) (ks : List KeyMeaning) (k : KeyMeaning) (a : Answer) → i < length ks → get_or ks i k ≡ k → a ≡ at_place i (test k)
    → each_key test i (drop i ks) ≡ and_then a (each_key test (i + 1) (drop (i + 1) ks))
each_next test i ks k a l at e =
    at_drop_more (each_key test i) ks i k l
    ∙ ap (λ (x : KeyMeaning). each_key test i (x ∷ drop (i + 1) ks)) at
    ∙ ap (λ (b : Answer). and_then b (each_key test (i + 1) (drop (i + 1) ks))) (sym e)

pub each_passed : (test : KeyMeaning → Answer) (i : ℕ) (ks : List KeyMeaning) (k : KeyMeaning) → i < length ks → get_or ks i k ≡ k → Ok tt ≡ at_place i (test k)
    → each_key test i (drop i ks) ≡ each_key test (i + 1) (drop (i + 1) ks)
each_passed test i ks k l at e = each_next test i ks k (Ok tt) l at e

pub each_stopped : (test : KeyMeaning → Answer) (i : ℕ) (ks : List KeyMeaning) (k : KeyMeaning) (f : Fault) → i < length ks → get_or ks i k ≡ k → Err f ≡ at_place i (test k)
    → each_key test i (drop i ks) ≡ Err f
each_stopped test i ks k f l at e = each_next test i ks k (Err f) l at e

pub each_ended : (test : KeyMeaning → Answer) (i : ℕ) (ks : List KeyMeaning) → length ks ≤ i → each_key test i (drop i ks) ≡ Ok tt
each_ended test i ks l = at_drop_all (each_key test i) ks i l
