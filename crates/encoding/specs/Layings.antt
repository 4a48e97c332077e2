-- Laying one part after another over an output.
use Rattle.std.specs.Prelude.{◌≡◌, ℕ, zero, suc, ◌+◌, ◌-◌, ◌^◌, ◌<◌, ◌≤◌, min, List, [], ◌∷◌, ◌++◌, length, take, drop, slice_set, refl}
use Rattle.std.proofs.Common.{◌⊎◌, sym, ◌∙◌, ap, subst, inl, inr, arith}
use borrow.Rule.Slice.PartMut.{put_mid}
use Rattle.std.proofs.lemmas.List.{length-append, append-nil}
use Rattle.std.proofs.lemmas.Bool.{cases_lt}
use Rattle.encoding.specs.Laying.{laid, onward, Laid}
use Rattle.encoding.specs.Messages.{Wrote}
use Rattle.encoding.specs.declared.output.Output.{Output}

pub laid-past : (at : ℕ) (xs os : List ℕ) → length os ≤ at → laid at xs os ≡ os
unfolding laid
laid-past at xs [] l = refl
laid-past zero xs (o ∷ os) l = absurd (omega arith)
laid-past (suc at) xs (o ∷ os) l = ap (λ (t : List ℕ). o ∷ t) (laid-past at xs os (omega arith))

pub laid_none : (at : ℕ) (os : List ℕ) → laid at [] os ≡ os
unfolding laid
laid_none at [] = refl
laid_none zero (o ∷ os) = refl
laid_none (suc at) (o ∷ os) = ap (λ (t : List ℕ). o ∷ t) (laid_none at os)

pub length-laid : (at : ℕ) (xs os : List ℕ) → length (laid at xs os) ≡ length os
unfolding laid
length-laid at xs [] = refl
length-laid zero [] (o ∷ os) = refl
length-laid zero (x ∷ xs) (o ∷ os) = ap suc (length-laid zero xs os)
length-laid (suc at) xs (o ∷ os) = ap suc (length-laid at xs os)

pub laid-set : (at v : ℕ) (os : List ℕ) → laid at (v ∷ []) os ≡ slice_set os at v
unfolding laid
laid-set at v [] = refl
laid-set zero v (o ∷ os) = ap (λ (t : List ℕ). v ∷ t) (laid_none zero os)
laid-set (suc at) v (o ∷ os) = ap (λ (t : List ℕ). o ∷ t) (laid-set at v os)

pub laid_more : (at n : ℕ) (xs ys os : List ℕ) → n ≡ at + length xs → laid n ys (laid at xs os) ≡ laid at (xs ++ ys) os
unfolding laid
laid_more at n xs ys [] e = refl
laid_more zero n [] ys (o ∷ os) e = ap (λ (m : ℕ). laid m ys (o ∷ os)) (let z : n ≡ 0 = omega arith in z)
laid_more zero zero (x ∷ xs) ys (o ∷ os) e = absurd (omega arith)
laid_more zero (suc n) (x ∷ xs) ys (o ∷ os) e = ap (λ (t : List ℕ). x ∷ t) (laid_more zero n xs ys os (omega arith))
laid_more (suc at) zero xs ys (o ∷ os) e = absurd (omega arith)
laid_more (suc at) (suc n) xs ys (o ∷ os) e = ap (λ (t : List ℕ). o ∷ t) (laid_more at n xs ys os (omega arith))

-- all of it, where there is room
pub laid-whole : (xs os : List ℕ) → length xs ≤ length os → laid 0 xs os ≡ xs ++ drop (length xs) os
unfolding laid
laid-whole [] [] l = refl
laid-whole [] (o ∷ os) l = refl
laid-whole (x ∷ xs) [] l = absurd (omega arith)
laid-whole (x ∷ xs) (o ∷ os) l = ap (λ (t : List ℕ). x ∷ t) (laid-whole xs os (omega arith))

-- as much of it as there is room for
pub laid_mid : (at n : ℕ) (xs os : List ℕ) → at ≤ length os → n ≡ min (length xs) (length os - at) → laid at xs os ≡ take at os ++ (take n xs ++ drop n (drop at os))
unfolding laid
laid_mid zero zero xs [] l e = refl
laid_mid zero (suc n) xs [] l e = absurd (omega arith)
laid_mid (suc at) n xs [] l e = absurd (omega arith)
laid_mid zero zero [] (o ∷ os) l e = refl
laid_mid zero (suc n) [] (o ∷ os) l e = absurd (omega arith)
laid_mid zero zero (x ∷ xs) (o ∷ os) l e = absurd (omega arith)
laid_mid zero (suc n) (x ∷ xs) (o ∷ os) l e = ap (λ (t : List ℕ). x ∷ t) (laid_mid zero n xs os (omega arith) (omega arith))
laid_mid (suc at) n xs (o ∷ os) l e = ap (λ (t : List ℕ). o ∷ t) (laid_mid at n xs os (omega arith) (omega arith))

pub laid_part : (at n k : ℕ) (xs os ys : List ℕ) → at ≤ length os → n ≡ min (length xs) (length os - at) → k ≡ n → ys ≡ take n xs → put_mid at k os ys ≡ laid at xs os
laid_part at n k xs os ys l e m y =
    ap (λ (j : ℕ). take at os ++ (ys ++ drop j (drop at os))) m ∙ ap (λ (t : List ℕ). take at os ++ (t ++ drop n (drop at os))) y ∙ sym (laid_mid at n xs os l e)

pub onward-is : (at : ℕ) (xs : List ℕ) (n : ℕ) → at < 2 ^ 64 → n ≡ min (at + length xs) (2 ^ 64 - 1) → n ≡ onward at xs
onward-is at [] n l e = omega arith
onward-is at (x ∷ xs) n l e = e

onward-more : (at : ℕ) (xs ys : List ℕ) → onward (onward at xs) ys ≡ onward at (xs ++ ys)
onward-more at [] ys = refl
onward-more at (x ∷ xs) [] = ap (λ (t : List ℕ). onward at (x ∷ t)) (sym (append-nil xs))
onward-more at (x ∷ xs) (y ∷ ys) = omega (arith, length-append xs (y ∷ ys))

-- a place past the end, or the place after xs
past-or : (at : ℕ) (xs : List ℕ) (n : ℕ) → n < 2 ^ 64 → ((n ≤ onward at xs) × (n ≤ at + length xs)) ⊎ (onward at xs ≡ at + length xs)
past-or at [] n l = inr (omega arith)
past-or at (x ∷ xs) n l = elim (cases_lt (at + length (x ∷ xs)) (2 ^ 64)) [ inl m ↦ inr (omega arith) | inr m ↦ inl (omega arith, omega arith) ]

pub then : (xs ys : List ℕ) (old mid new : Output) → length old.out.now < 2 ^ 64 → Laid xs old mid → Laid ys mid new → Laid (xs ++ ys) old new
then xs ys old mid new room p q =
    record {
      after = elim (past-or old.at xs (length old.out.now) room) [
        | inr l ↦
            let e : mid.at ≡ old.at + length xs = omega (arith, p.ends) in
            q.after ∙ ap (laid mid.at ys) p.after ∙ laid_more old.at mid.at xs ys old.out.now e
        | inl g ↦
            let len : length mid.out.now ≡ length old.out.now = ap length p.after ∙ length-laid old.at xs old.out.now in
            q.after ∙ laid-past mid.at ys mid.out.now (omega (arith, p.ends, g.0)) ∙ p.after ∙ sym (laid-past (old.at + length xs) ys (laid old.at xs old.out.now) (omega (arith, g.1, length-laid old.at xs old.out.now)))
            ∙ laid_more old.at (old.at + length xs) xs ys old.out.now refl
      ];
      ends = q.ends ∙ ap (λ (n : ℕ). onward n ys) p.ends ∙ onward-more old.at xs ys;
      lent = q.lent ∙ p.lent;
    }

pub laid_as : (xs ys : List ℕ) (old new : Output) → xs ≡ ys → Laid xs old new → Laid ys old new
laid_as xs ys old new e p = subst (λ (x : List ℕ). Laid x old new) e p

pub laid_empty : (xs : List ℕ) (old : Output) → xs ≡ [] → Laid xs old old
laid_empty xs old e = record { after = sym (laid_none old.at old.out.now) ∙ ap (λ (x : List ℕ). laid old.at x old.out.now) (sym e); ends = ap (onward old.at) (sym e); lent = refl }

-- an output keeps its length
pub laid-room : (xs : List ℕ) (old new : Output) → length old.out.now < 2 ^ 64 → Laid xs old new → length new.out.now < 2 ^ 64
laid-room xs old new l p = omega (arith, ap length p.after, length-laid old.at xs old.out.now)

-- laid at the front, with room for it all
pub wrote : (xs old new : List ℕ) (n : ℕ) (first last : Output) → first.out.now ≡ old → first.at ≡ 0 → length xs ≤ length old → length old < 2 ^ 64 → Laid xs first last → new ≡ last.out.now → n ≡ last.at
    → Wrote xs old new n
wrote xs old new n first last e z l m p f g =
    let size : n ≡ length xs = g ∙ p.ends ∙ ap (λ (k : ℕ). onward k xs) z ∙ front xs (omega arith) in
    record {
      size = size;
      after = f ∙ p.after ∙ ap (λ (k : ℕ). laid k xs first.out.now) z ∙ ap (laid 0 xs) e ∙ laid-whole xs old l ∙ ap (λ (k : ℕ). xs ++ drop k old) (sym size);
    }
  where
    front : (xs : List ℕ) → length xs < 2 ^ 64 → onward 0 xs ≡ length xs
    front [] l = refl
    front (x ∷ xs) l = omega arith
