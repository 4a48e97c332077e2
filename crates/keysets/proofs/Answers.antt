-- Calls that accept or refuse.
use Rattle.std.proofs.Common.{◌≡◌, ℕ, Bool, true, false, Ok, Err, refl, ap, ◌∙◌, arith}
use Rattle.std.proofs.lemmas.Bool.{both_ways}
use Rattle.ciphers.specs.declared.fault.Fault.{Fault}
use Rattle.keysets.specs.Answering.{Answer, only_if, at_place, and_then, giving}

pub held : (b : Bool) (f : Fault) → Ok tt ≡ only_if b f → b ≡ true
held true f e = refl
held false f e = let z : ◌≡◌ {A = ℕ} 0 1 = cc in absurd (omega arith)

pub failed : (b : Bool) (f g : Fault) → Err g ≡ only_if b f → (b ≡ false) × (g ≡ f)
failed true f g e = let z : ◌≡◌ {A = ℕ} 0 1 = cc in absurd (omega arith)
failed false f g e = (refl, cc)

pub gave : {X : Type 0} (i : ℕ) (x y : X) (a : Answer) → Ok y ≡ at_place i (giving x a) → (y ≡ x) × (Ok tt ≡ a)
gave i x y (Ok u) e = (cc, refl)
gave i x y (Err f) e = let z : ◌≡◌ {A = ℕ} 0 1 = cc in absurd (omega arith)

pub gave_none : {X : Type 0} (i : ℕ) (x : X) (f : Fault) (a : Answer) → Err f ≡ at_place i (giving x a) → Err f ≡ at_place i a
gave_none i x f (Ok u) e = let z : ◌≡◌ {A = ℕ} 0 1 = cc in absurd (omega arith)
gave_none i x f (Err g) e = cc

pub only_ok : (b : Bool) (f : Fault) → b ≡ true → only_if b f ≡ Ok tt
only_ok true f e = refl
only_ok false f e = absurd (both_ways false refl e)

pub both_ok : (a b : Answer) → and_then a b ≡ Ok tt → (a ≡ Ok tt) × (b ≡ Ok tt)
both_ok (Ok u) b e = (refl, e)
both_ok (Err f) b e = let z : ◌≡◌ {A = ℕ} 0 1 = cc in absurd (omega arith)

pub ok_both : (a b : Answer) → a ≡ Ok tt → b ≡ Ok tt → and_then a b ≡ Ok tt
ok_both a b e f = ap (λ (x : Answer). and_then x b) e ∙ f

pub place_ok : (i : ℕ) (a : Answer) → at_place i a ≡ Ok tt → a ≡ Ok tt
place_ok i (Ok u) e = refl
place_ok i (Err f) e = let z : ◌≡◌ {A = ℕ} 0 1 = cc in absurd (omega arith)

pub ok_place : (i : ℕ) (a : Answer) → a ≡ Ok tt → at_place i a ≡ Ok tt
ok_place i a e = ap (at_place i) e
