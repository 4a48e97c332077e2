-- Lists that lie at the front of an array.
use Rattle.std.specs.Prelude.{◌≡◌, ℕ, zero, suc, ◌+◌, ◌-◌, ◌<◌, ◌≤◌, List, [], ◌∷◌, ◌++◌, length, get_or, take, drop, Some, None, slice_index_or, slice_set}
use Rattle.std.proofs.Common.{sym, ◌∙◌, ap, arith}
use Rattle.std.specs.List.{copy_within}
use Rattle.std.proofs.lemmas.List.{length-take-le, take-take, take_at, drop-take, take-set, take_all, drop_all, append-nil, get_or-append_right, get_or-drop, length-append, length-drop}
use Rattle.std.proofs.lemmas.Option.{none-some, slice_get_within}
use Rattle.encoding.specs.Lists.{list, item}
use Rattle.encoding.specs.declared.bounded.Bounded.{Bounded}

pub list_length : {T : Type 0} {n : ℕ} (b : Bounded T n) → length (list b) ≡ b.len
list_length b = length-take-le b.len b.items (omega (arith, b.fits, b.full))

-- where a list has an item, and where it has none
pub item_within : {T : Type 0} {n : ℕ} (b : Bounded T n) (i : ℕ) (x : T) → Some x ≡ item (list b) i → i < b.len
item_within b i x e = omega (arith, slice_get_within (list b) i x (sym e), list_length b)

pub item_past : {T : Type 0} (xs : List T) (i : ℕ) → None ≡ item xs i → length xs ≤ i
item_past [] i e = omega arith
item_past (x ∷ xs) zero e = absurd (none-some x e)
item_past (x ∷ xs) (suc i) e = omega (arith, item_past xs i e)

-- without the item at a place
abbrev pub without : {T : Type 0} → List T → ℕ → List T
without xs at = take at xs ++ drop (at + 1) xs

pub without-length : {T : Type 0} (xs : List T) (at : ℕ) → at < length xs → length (without xs at) + 1 ≡ length xs
without-length xs at l = omega (arith, length-append (take at xs) (drop (at + 1) xs), length-take-le at xs (omega arith), length-drop (at + 1) xs)

pub without-past : {T : Type 0} (xs : List T) (at : ℕ) → length xs ≤ at → xs ≡ without xs at
without-past xs at l = sym (ap (λ t. t ++ drop (at + 1) xs) (take_all at xs l) ∙ ap (λ t. xs ++ t) (drop_all (at + 1) xs (omega arith)) ∙ append-nil xs)

pub without_at : {T : Type 0} (xs : List T) (at i : ℕ) (d : T) → at ≤ i → at ≤ length xs → slice_index_or (without xs at) i d ≡ slice_index_or xs (i + 1) d
without_at xs at i d l m =
    let e : (at + 1) + (i - at) ≡ i + 1 = omega arith in
    get_or-append_right (take at xs) (drop (at + 1) xs) at i d (length-take-le at xs m) l ∙ get_or-drop (at + 1) xs (i - at) d ∙ ap (λ k. get_or xs k d) e

-- without one of the first n: the items after it are copied one to the front
pub removed : {T : Type 0} (xs : List T) (at n : ℕ) (blank : T) → at < n → n ≤ length xs
    → take (n - 1) (slice_set (copy_within xs (at + 1) n at) (n - 1) blank) ≡ without (take n xs) at
removed xs at n blank l m =
    let k : ℕ = n - (at + 1) in
    let a = take at xs in
    let b = take k (drop (at + 1) xs) in
    let c = drop (at + k) xs in
    let size : length (a ++ b) ≡ n - 1 = omega (arith, length-append a b, length-take-le at xs (omega arith), length-take-le k (drop (at + 1) xs) (omega (arith, length-drop (at + 1) xs))) in
    let sum : (at + 1) + k ≡ n = omega arith in
    take-set (copy_within xs (at + 1) n at) (n - 1) blank ∙ take_at (a ++ b) c (n - 1) size
    ∙ ap (λ t. t ++ b) (sym (take-take at n xs (omega arith))) ∙ ap (λ t. take at (take n xs) ++ t) (sym (drop-take (at + 1) k xs) ∙ ap (λ j. drop (at + 1) (take j xs)) sum)
