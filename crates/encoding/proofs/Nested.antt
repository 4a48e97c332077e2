-- Records inside records: one that may be absent, and a list of them.
use Rattle.std.proofs.Common.{◌≡◌, ℕ, ◌<◌, List, [], ◌∷◌, ◌++◌, map, length, Ok, Err, Result, MatchResult, is_ok, ap, ◌∙◌, arith}
use Rattle.std.proofs.lemmas.List.{length-append, length-map, map_push}
use Rattle.encoding.specs.Wire.{Field, number, bytes, encode}
use Rattle.encoding.specs.Members.{each}
use Rattle.encoding.specs.Messages.{Filled, Unread}
use Rattle.encoding.specs.Lists.{list}
use Rattle.encoding.specs.declared.bounded.Bounded.{Bounded}
use Rattle.encoding.specs.ListsLemmas.{list_length}
use Rattle.encoding.proofs.Places.{never_place}
use Rattle.ciphers.specs.Faults.{fault}
use Rattle.ciphers.specs.declared.fault.Fault.{Fault}
use Rattle.ciphers.specs.declared.fault.Refusal.TheVariants.{BreaksEncoding}
use Rattle.ciphers.specs.declared.fault.Layer.TheVariants.{Encoding}

pub each_push : {R : Type 0} (fields : R → List Field) (k : ℕ) (old new : List R) (made : R) (bs : List ℕ) → new ≡ old ++ (made ∷ [])
    → encode (fields made) ≡ bs → each fields k new ≡ each fields k old ++ (bytes k bs ∷ [])
each_push {R} fields k old new made bs l e =
    let one : R → Field = λ r. bytes k (encode (fields r)) in
    ap (map one) l ∙ map_push one old made ∙ ap (λ (b : List ℕ). each fields k old ++ (bytes k b ∷ [])) e

pub each_full : {R : Type 0} {n : ℕ} (fields : R → List Field) (k : ℕ) (old new : Bounded R n) (f : Field) (gs : List Field) → length (list old) ≡ n → each fields k (list new) ≡ each fields k (list old) ++ (f ∷ gs) → ⊥
each_full fields k old new f gs l e =
    omega (arith, ap length e, length-append (each fields k (list old)) (f ∷ gs), length-map (list old) (λ r. bytes k (encode (fields r))), length-map (list new) (λ r. bytes k (encode (fields r))), list_length new, new.fits)

one_of : {R : Type 0} (fields : R → List Field) (k : ℕ) (xs : List R) (fs : List Field) (bs : List ℕ) (gs : List Field) → each fields k xs ≡ fs ++ (bytes k bs ∷ gs) → (r : R) × (encode (fields r) ≡ bs)
one_of fields k [] [] bs gs e = absurd (omega (arith, ap length e))
one_of fields k [] (g ∷ fs) bs gs e = absurd (omega (arith, ap length e))
one_of fields k (x ∷ xs) [] bs gs e = (x, cc)
one_of fields k (x ∷ xs) (g ∷ fs) bs gs e = let t : each fields k xs ≡ fs ++ (bytes k bs ∷ gs) = cc in one_of fields k xs fs bs gs t

pub each_bad : {R : Type 0} (fields : R → List Field) (k : ℕ) (old new : List R) (bs : List ℕ) (f : Fault) (gs : List Field) → Unread fields bs f → each fields k new ≡ each fields k old ++ (bytes k bs ∷ gs) → ⊥
each_bad fields k old new bs f gs u e = let q = one_of fields k new (each fields k old) bs gs e in never_place fields bs f.place q.0 q.1 u.place_is

-- records in a list are written as bytes
pub each_number : {R : Type 0} (fields : R → List Field) (k : ℕ) (xs ys : List R) (j v : ℕ) (gs : List Field) → each fields k xs ≡ each fields k ys ++ (number j v ∷ gs) → ⊥
each_number fields k [] [] j v gs e = omega (arith, ap length e)
each_number fields k [] (y ∷ ys) j v gs e = omega (arith, ap length e)
each_number fields k (x ∷ xs) [] j v gs e = let z : ◌≡◌ {A = ℕ} 0 1 = cc in omega arith
each_number fields k (x ∷ xs) (y ∷ ys) j v gs e = let t : each fields k xs ≡ each fields k ys ++ (number j v ∷ gs) = cc in each_number fields k xs ys j v gs t

-- a record that was read, at the end of a list with room for it or not
pub each_pushed : {R : Type 0} {n : ℕ} (fields : R → List Field) (k : ℕ) (r : Result (Unit {0}) Fault) (old new : Bounded R n) (made : R) (bs : List ℕ) → encode (fields made) ≡ bs
    → MatchResult r (λ _. (length (list old) < n) × (list new ≡ list old ++ (made ∷ []))) (λ f. (f ≡ fault BreaksEncoding Encoding) × (length (list old) ≡ n) × (new ≡ old))
    → Filled (λ b. each fields k (list b)) (λ _. Unit {0}) (is_ok r) old new (bytes k bs)
each_pushed fields k (Ok x) old new made bs e h = each_push fields k (list old) (list new) made bs h.1 e
each_pushed {R} {n} fields k (Err f) old new made bs e h = (
  ap (λ (b : Bounded R n). each fields k (list b)) h.2,
  λ v gs _. each_full fields k old v (bytes k bs) gs h.1,
)
