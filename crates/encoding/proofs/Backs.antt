-- Reading undoes writing.
use Rattle.std.proofs.Common.{◌≡◌, ℕ, ◌-◌, Bool, List, length, take, drop, Ok, Err, Result, sym, ap, ◌∙◌, arith, MatchResult}
use Rattle.std.proofs.lemmas.List.{take_at}
use Rattle.ciphers.specs.declared.fault.Fault.{Fault}
use Rattle.encoding.specs.Wire.{Field, encode}
use Rattle.encoding.specs.Messages.{Ordered, Unread, Wrote}
use Rattle.encoding.specs.Fields.{encode_same}
use Rattle.encoding.specs.Orders.{all_small}
use Rattle.encoding.proofs.Places.{never_place}

pub wrote-front : (xs old new : List ℕ) (n : ℕ) → Wrote xs old new n → take (n - 0) new ≡ xs
wrote-front xs old new n w = let e : length xs ≡ n - 0 = omega (arith, w.size) in ap (take (n - 0)) w.after ∙ take_at xs (drop n old) (n - 0) e

pub back : {R : Type 0} (fields : R → List Field) (K : Field → Bool) → ((r : R) → Ordered K 1 15 (fields r)) → (same : R → R → Type 0) → ((r s : R) → fields r ≡ fields s → same r s)
    → (Q : Fault → Type 0) (r : R) (bs : List ℕ) (res : Result R Fault) → bs ≡ encode (fields r) → MatchResult res (λ v. encode (fields v) ≡ bs) (λ f. Unread fields bs f) → MatchResult res (λ v. same v r) Q
back fields K ordered same told Q r bs (Ok v) e h = told v r (encode_same (fields v) (fields r) (all_small K 1 15 (fields v) (ordered v)) (all_small K 1 15 (fields r) (ordered r)) (h ∙ e))
back fields K ordered same told Q r bs (Err f) e h = absurd (never_place fields bs f.place r (sym e) h.place_is)
