-- A kind is known by its number.
use Rattle.std.proofs.Common.{◌≡◌, ℕ, true, false, List, [], ◌∷◌, ℤ, pos, negsuc, Some, sym, refl, ap, ◌∙◌, inl, inr, arith}
use Rattle.std.proofs.lemmas.Bool.{eqb-true, cases_Bool, cond-true, cond-false, both_ways}
use Rattle.encoding.specs.Kinds.{same_number, kind_of}

pub same_true : (y z : ℤ) → same_number y z ≡ true → y ≡ z
same_true (pos m) (pos n) e = ap pos (eqb-true m n e)
same_true (pos m) (negsuc n) e = absurd (both_ways false refl e)
same_true (negsuc m) (pos n) e = absurd (both_ways false refl e)
same_true (negsuc m) (negsuc n) e = ap negsuc (eqb-true m n e)

pub kind_number : {K : Type 0} (number : K → ℤ) (ks : List K) (z : ℤ) (k : K) → kind_of number ks z ≡ Some k → number k ≡ z
kind_number number [] z k e = let no : ◌≡◌ {A = ℕ} 0 1 = cc in absurd (omega arith)
kind_number number (x ∷ xs) z k e = elim (cases_Bool (same_number (number x) z)) [
  | inl t ↦ let same : x ≡ k = let h = cond-true _ (Some x) (kind_of number xs z) t in cc in ap number (sym same) ∙ same_true (number x) z t
  | inr f ↦ kind_number number xs z k (sym (cond-false _ (Some x) (kind_of number xs z) f) ∙ e)
]
