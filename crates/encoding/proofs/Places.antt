-- Reading a record field by field, and the place of a refusal.
use Rattle.std.proofs.Common.{◌≡◌, ℕ, ◌+◌, ◌-◌, ◌<◌, ◌≤◌, Bool, true, false, List, [], ◌∷◌, ◌++◌, length, take, drop, sym, ap, ◌∙◌, subst, inl, inr, arith}
use Rattle.std.specs.List.{AllByRecursion}
use Rattle.std.proofs.lemmas.List.{append_assoc, take-append-drop, length-take-le, length-drop, take_at, take_all}
use Rattle.std.proofs.lemmas.Bool.{cases_lt}
use Rattle.ciphers.specs.Faults.{fault, placed}
use Rattle.ciphers.specs.declared.fault.Fault.{Fault}
use Rattle.ciphers.specs.declared.fault.Refusal.TheVariants.{BreaksEncoding}
use Rattle.ciphers.specs.declared.fault.Layer.TheVariants.{Encoding}
use Rattle.encoding.specs.Wire.{Field, number_of, encode_field, encode, Small}
use Rattle.encoding.specs.Scanning.{IsField, field_of, number_is}
use Rattle.encoding.specs.Messages.{Ordered, Took, up_to, past, Place, last_of, Went, Stuck, Unread}
use Rattle.encoding.specs.declared.scan.Piece.{Piece}
use Rattle.encoding.specs.Fields.{field_unique, fields_split, take_split, encode_push}
use Rattle.encoding.specs.Orders.{last_before, up_to_last}

pub place : {R : Type 0} (fields : R → List Field) → ((r : R) → AllByRecursion Small (fields r))
    → (bs : List ℕ) (at : ℕ) (r : R) → at < length bs → encode (fields r) ≡ take at bs → Stuck fields r (drop at bs) → Place fields bs at
place {R} fields small bs at r lt e stuck = record { early = lt; whole = (r, e); longest = longest }
  where
    longest : (s : R) (n : ℕ) → n ≤ length bs → encode (fields s) ≡ take n bs → n ≤ at
    longest s n l q = elim (cases_lt at n) [
      | inr g ↦ g
      | inl g ↦
          let cut : take n bs ≡ take at bs ++ take (n - at) (drop at bs) = take_split at n bs (omega arith) in
          let long : length (take (n - at) (drop at bs)) ≡ n - at = length-take-le (n - at) (drop at bs) (simp length-drop (omega arith)) in
          let t = fields_split (fields r) (fields s) (take (n - at) (drop at bs)) (small r) (small s) (omega arith) (q ∙ cut ∙ ap (λ (x : List ℕ). x ++ take (n - at) (drop at bs)) (sym e)) in
          let whole : drop at bs ≡ encode_field t.0 ++ (encode t.1.0 ++ drop (n - at) (drop at bs)) =
          sym (take-append-drop (n - at) (drop at bs)) ∙ ap (λ (x : List ℕ). x ++ drop (n - at) (drop at bs)) (sym t.1.2) ∙ append_assoc (encode_field t.0) (encode t.1.0) (drop (n - at) (drop at bs)) in
          absurd (stuck t.0 (encode t.1.0 ++ drop (n - at) (drop at bs)) t.1.3 whole s t.1.0 t.1.1)
    ]

pub went_more : {R : Type 0} (fields : R → List Field) (bs : List ℕ) (at n k : ℕ) (old new : R) → at ≤ length bs
    → encode (fields old) ≡ take at bs → Went fields old new (drop at bs) n k
    → (at + n ≤ length bs) × (encode (fields new) ≡ take (at + n) bs)
went_more fields bs at n k old new l e w =
    let len = length-drop at bs in
    let in-range : at + n ≤ length bs = omega (arith, w.within) in
    let sum : (at + n) - at ≡ n = omega arith in
    let cut : take (at + n) bs ≡ take at bs ++ take n (drop at bs) = subst (λ (m : ℕ). take (at + n) bs ≡ take at bs ++ take m (drop at bs)) sum (take_split at (at + n) bs (omega arith)) in
    let one : take n (drop at bs) ≡ encode_field w.field = ap (take n) w.front ∙ take_at (encode_field w.field) (drop n (drop at bs)) n (sym w.size) in
    (in-range, ap encode w.added ∙ encode_push (fields old) w.field ∙ ap (λ (x : List ℕ). x ++ encode_field w.field) e ∙ ap (λ (x : List ℕ). take at bs ++ x) (sym one) ∙ sym cut)

-- the field at the front stands before the last one: no record goes on so
pub early : {R : Type 0} (fields : R → List Field) (K : Field → Bool) → ((r : R) → Ordered K 0 15 (fields r)) → (old : R) (bs : List ℕ) (p : Piece) → IsField bs p → number_of (field_of p.number p.content) < last_of 0 (fields old)
    → Stuck fields old bs
early fields K ordered old bs p i l f rest small q s gs a =
    let u = field_unique f (field_of p.number p.content) rest (drop p.size bs) small i.small (sym q ∙ i.front) in
    omega (arith, ap number_of u.0, last_before K 0 15 (fields old) f gs (subst (Ordered K 0 15) a (ordered s)))

-- in order, one more field goes to the end
pub at_end : {R : Type 0} (fields : R → List Field) (K : Field → Bool) → ((r : R) → Ordered K 0 15 (fields r)) → (old : R) (k : ℕ) → last_of 0 (fields old) ≤ k → (up_to k (fields old) ≡ fields old) × (past k (fields old) ≡ [])
at_end fields K ordered old k l = up_to_last K 0 15 k (fields old) (ordered old) l

pub refused : {R : Type 0} (fields : R → List Field) (K : Field → Bool) → ((r : R) → Ordered K 0 15 (fields r)) → (old new : R) (bs : List ℕ) (p : Piece)
    → IsField bs p → last_of 0 (fields old) ≤ p.number → Took fields false old new (field_of p.number p.content) → Stuck fields old bs
refused fields K ordered old new bs p i l t f rest small q s gs a =
    let g : Field = field_of p.number p.content in
    let u = field_unique f g rest (drop p.size bs) small i.small (sym q ∙ i.front) in
    t.1 s gs (a ∙ ap (λ x. fields old ++ (x ∷ gs)) u.0 ∙ ap (λ x. x ++ (g ∷ gs)) (sym (at_end fields K ordered old (number_of g) (omega (arith, number_is p.number p.content))).0))

pub taken : {R : Type 0} (fields : R → List Field) (K : Field → Bool) → ((r : R) → Ordered K 0 15 (fields r)) → (old new : R) (bs : List ℕ) (p : Piece)
    → IsField bs p → last_of 0 (fields old) ≤ p.number → Took fields true old new (field_of p.number p.content) → Went fields old new bs p.size p.number
taken fields K ordered old new bs p i l t =
    let g : Field = field_of p.number p.content in
    let en = at_end fields K ordered old (number_of g) (omega (arith, number_is p.number p.content)) in
    record {
      field = g;
      front = i.front;
      size = i.size;
      within = i.within;
      some = i.some;
      number = sym (number_is p.number p.content);
      added = t ∙ ap (λ x. x ++ (g ∷ past (number_of g) (fields old))) en.0 ∙ ap (λ x. fields old ++ (g ∷ x)) en.1;
    }

-- the reader accepts what is a record's encoding
pub never_place : {R : Type 0} (fields : R → List Field) (bs : List ℕ) (at : ℕ) (r : R) → encode (fields r) ≡ bs → Place fields bs at → ⊥
never_place fields bs at r e p = omega (arith, p.early, p.longest r (length bs) (omega arith) (e ∙ sym (take_all (length bs) bs (omega arith))))

pub unread : {R : Type 0} (fields : R → List Field) (bs : List ℕ) (at : ℕ) (f : Fault) → f ≡ placed at (fault BreaksEncoding Encoding) → Place fields bs at → Unread fields bs f
unread fields bs at f whole h =
    let here : f.place ≡ at = ap (λ (x : Fault). x.place) whole in
    record { fault_is = whole ∙ ap (λ (n : ℕ). placed n (fault BreaksEncoding Encoding)) (sym here); place_is = subst (Place fields bs) (sym here) h }
