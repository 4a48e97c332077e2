-- A record as one part after another: what shows a record's contract from its parts', once for all records.
use Rattle.std.specs.Prelude.{◌≡◌, ℕ, suc, ◌+◌, ◌<◌, ◌≤◌, Bool, true, false, List, [], ◌∷◌, ◌++◌, refl}
use Rattle.std.proofs.Common.{sym, ◌∙◌, ap, subst, arith}
use Rattle.std.specs.List.{AllByRecursion}
use Rattle.std.proofs.lemmas.List.{append_assoc, append-nil}
use Rattle.encoding.specs.Wire.{Field, number, bytes, number_of, encode}
use Rattle.encoding.specs.Messages.{Ordered, Sound, up_to, past, Took, Filled}
use Rattle.encoding.specs.Scanning.{field_of}
use Rattle.encoding.specs.declared.content.Content.{Content}
use Rattle.encoding.specs.declared.content.Content.TheVariants.{Number, Bytes}
use Rattle.encoding.specs.Parts.{encode-length}
use Rattle.encoding.specs.Orders.{lower, within, up_to_append, up_to_past, up_to_above, covers, split_later, split_same}

-- parts in order are sound together
pub none : {K : Field → Bool} {lo hi : ℕ} → Sound K lo hi 0 []
unfolding Ordered encode
none = record { ordered = tt; size = omega arith }

ordered-join : (K : Field → Bool) (lo k hi : ℕ) (A B : List Field) → k ≤ hi → lo ≤ suc k → Ordered K lo k A → Ordered K (suc k) hi B → Ordered K lo hi (A ++ B)
unfolding Ordered
ordered-join K lo k hi [] B l m a b = lower K (suc k) lo hi B m b
ordered-join K lo k hi (f ∷ A) B l m a b = (a.0, omega (arith, a.1), a.2, a.3, ordered-join K (number_of f) k hi A B l (omega (arith, a.1)) a.4 b)

pub join : {K : Field → Bool} {k hi m n : ℕ} {A B : List Field} → k ≤ hi → Sound K k k m A → Sound K (suc k) hi n B → Sound K k hi (m + n) (A ++ B)
join {K} {k} {hi} {m} {n} {A} {B} l a b = record {
  ordered = ordered-join K k k hi A B l (omega arith) a.ordered b.ordered;
  size = omega (arith, encode-length A B, a.size, b.size);
}

pub from_one : {K : Field → Bool} {lo hi m : ℕ} {A : List Field} → 1 ≤ lo → Sound K lo hi m A → Sound K 1 hi m A
from_one {K} {lo} {hi} {m} {A} l a = record { ordered = lower K lo 1 hi A l a.ordered; size = a.size }

-- a member's own step, as a step of the record's part that it is written as
member : {R V : Type 0} (part : V → List Field) (In : V → Type 0) (π : R → V) (P : R → List Field) → ((r : R) → In (π r)) → ((r : R) → part (π r) ≡ P r) → (b : Bool) (old new : R) (f : Field)
    → Filled part In b (π old) (π new) f → Filled P (λ _. Unit {0}) b old new f
member part In π P in_all same true old new f h = sym (same new) ∙ h ∙ ap (λ x. x ++ (f ∷ [])) (same old)
member part In π P in_all same false old new f h =
    (sym (same new) ∙ h.0 ∙ same old, λ s gs _ e. h.1 (π s) gs (in_all s) (same s ∙ e ∙ ap (λ x. x ++ (f ∷ gs)) (sym (same old))))

-- where a record is P and then Q: fields of P have the number k, and those of Q are past it
pub record Level {R : Type 0} (K : Field → Bool) (k : ℕ) (P Q : R → List Field) : Type 0 where
  pub here : (r : R) → Ordered K k k (P r)
  pub after : (r : R) → Ordered K (suc k) 15 (Q r)

cut_here : {R : Type 0} {K : Field → Bool} {k : ℕ} {P Q : R → List Field} → Level K k P Q → (r : R) → (up_to k (P r ++ Q r) ≡ P r) × (past k (P r ++ Q r) ≡ Q r)
cut_here {R} {K} {k} {P} {Q} v r =
    let a = up_to_append K k k k (P r) (Q r) (v.here r) (omega arith) in
    let b = up_to_past K (suc k) 15 k (Q r) (v.after r) (omega arith) in
    (a.0 ∙ ap (λ x. P r ++ x) b.0 ∙ append-nil (P r), a.1 ∙ b.1)

-- the step of the first part
part_step : {R : Type 0} {K : Field → Bool} {k : ℕ} {P Q : R → List Field} → Level K k P Q → (b : Bool) (old new : R) (f : Field)
    → number_of f ≡ k → Q new ≡ Q old → Filled P (λ _. Unit {0}) b old new f → Took (λ r. P r ++ Q r) b old new f
part_step {R} {K} {k} {P} {Q} v true old new f n same h =
    let c = subst (λ (j : ℕ). (up_to j (P old ++ Q old) ≡ P old) × (past j (P old ++ Q old) ≡ Q old)) (sym n) (cut_here v old) in
    ap (λ x. x ++ Q new) h ∙ ap (λ x. (P old ++ (f ∷ [])) ++ x) same ∙ append_assoc (P old) (f ∷ []) (Q old)
    ∙ sym (ap (λ x. x ++ (f ∷ past (number_of f) (P old ++ Q old))) c.0 ∙ ap (λ x. P old ++ (f ∷ x)) c.1)
part_step {R} {K} {k} {P} {Q} v false old new f n same h =
    let c = subst (λ (j : ℕ). (up_to j (P old ++ Q old) ≡ P old) × (past j (P old ++ Q old) ≡ Q old)) (sym n) (cut_here v old) in (
      ap (λ x. x ++ Q new) h.0 ∙ ap (λ x. P old ++ x) same,
      λ s gs e.
          let u = covers K k k 15 (P old) (P s) (Q s) f gs (v.here old) (v.after s) n (e ∙ ap (λ x. x ++ (f ∷ gs)) c.0) in
          h.1 s u.0 tt u.1,
    )

-- of the member π, which the first part is written of
pub first : {R V : Type 0} {K : Field → Bool} {k : ℕ} {P Q : R → List Field} → Level K k P Q → (part : V → List Field) (In : V → Type 0) (π : R → V) → ((r : R) → In (π r)) → ((r : R) → part (π r) ≡ P r)
    → (b : Bool) (old new : R) (f : Field) → number_of f ≡ k → Q new ≡ Q old → Filled part In b (π old) (π new) f → Took (λ r. P r ++ Q r) b old new f
first {P = P} v part In π in_all same b old new f n kept h = part_step v b old new f n kept (member part In π P in_all same b old new f h)

-- equal fields have equal parts
pub split : {R : Type 0} {K : Field → Bool} {k : ℕ} {P Q : R → List Field} → Level K k P Q → (r s : R) → P r ++ Q r ≡ P s ++ Q s → (P r ≡ P s) × (Q r ≡ Q s)
split {R} {K} {k} {P} {Q} v r s e = split_same K k k 15 (P r) (P s) (Q r) (Q s) (v.here r) (v.here s) (v.after r) (v.after s) e

-- the step of what follows
pub rest : {R : Type 0} {K : Field → Bool} {k : ℕ} {P Q : R → List Field} → Level K k P Q → (b : Bool) (old new : R) (f : Field)
    → k < number_of f → P new ≡ P old → Took Q b old new f → Took (λ r. P r ++ Q r) b old new f
rest {R} {K} {k} {P} {Q} v true old new f n same h =
    let a = up_to_append K k k (number_of f) (P old) (Q old) (v.here old) (omega arith) in
    ap (λ x. x ++ Q new) same ∙ ap (λ x. P old ++ x) h ∙ sym (append_assoc (P old) (up_to (number_of f) (Q old)) (f ∷ past (number_of f) (Q old)))
    ∙ sym (ap (λ x. x ++ (f ∷ past (number_of f) (P old ++ Q old))) a.0 ∙ ap (λ x. (P old ++ up_to (number_of f) (Q old)) ++ (f ∷ x)) a.1)
rest {R} {K} {k} {P} {Q} v false old new f n same h =
    let a = up_to_append K k k (number_of f) (P old) (Q old) (v.here old) (omega arith) in (
      ap (λ x. x ++ Q new) same ∙ ap (λ x. P old ++ x) h.0,
      λ s gs e. h.1 s gs
          (split_later K k k 15 (P old) (P s) (Q s) (up_to (number_of f) (Q old)) f gs (v.here old) (v.here s) (v.after s) (up_to_above K k 15 (number_of f) (Q old) (v.after old)) n
          (e ∙ ap (λ x. x ++ (f ∷ gs)) a.0 ∙ append_assoc (P old) (up_to (number_of f) (Q old)) (f ∷ gs))),
    )

all_mid : {X : Type 0} (P : X → Type 0) (xs : List X) (x : X) (ys : List X) → AllByRecursion P (xs ++ (x ∷ ys)) → P x
all_mid P [] x ys h = h.0
all_mid P (y ∷ xs) x ys h = all_mid P xs x ys h.1

-- a field that the record does not know
pub unknown : {R : Type 0} (fields : R → List Field) (K : Field → Bool) (most : ℕ) → ((r : R) → Sound K 1 15 most (fields r)) → (old new : R) (f : Field) → K f ≡ false → fields new ≡ fields old
    → Took fields false old new f
unknown fields K most sound old new f unk same = (
  same,
  λ s gs e.
      let y = all_mid (λ g. (1 ≤ number_of g) × (number_of g ≤ 15) × (K g ≡ true)) (up_to (number_of f) (fields old)) f gs (subst (AllByRecursion (λ g. (1 ≤ number_of g) × (number_of g ≤ 15) × (K g ≡ true))) e (within K 1 15 (fields s) (sound s).ordered)) in
      let z : true ≡ false = sym y.2 ∙ unk in
      let w : ◌≡◌ {A = ℕ} 0 1 = cc in
      omega arith,
)

-- at the number that the code tested for
pub at-field : {R : Type 0} (fields : R → List Field) (b : Bool) (old new : R) (k n : ℕ) (x : Content) → k ≡ n → Took fields b old new (field_of n x) → Took fields b old new (field_of k x)
at-field fields b old new k n x e h = subst (λ (j : ℕ). Took fields b old new (field_of j x)) (sym e) h

-- with a number that the record knows for neither content
pub stranger : {R : Type 0} (fields : R → List Field) (K : Field → Bool) (most : ℕ) → ((r : R) → Sound K 1 15 most (fields r)) → (old : R) (k : ℕ) (x : Content)
    → ((v : ℕ) → K (number k v) ≡ false) → ((b : List ℕ) → K (bytes k b) ≡ false) → Took fields false old old (field_of k x)
stranger fields K most sound old k (Number v) n m = unknown fields K most sound old old (number k v) (n v) refl
stranger fields K most sound old k (Bytes b) n m = unknown fields K most sound old old (bytes k b.now) (m b.now) refl
