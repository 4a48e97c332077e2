-- The items of a mapped list.
use Rattle.std.proofs.Common.{◌≡◌, ℕ, zero, suc, ◌<◌, ◌≤◌, true, false, eqb, List, [], ◌∷◌, map, length, get_or, sym, refl, ap, ◌∙◌, arith}
use Rattle.std.proofs.lemmas.Bool.{eqb-true, eqb-false}
use Rattle.std.specs.Option.{option_map}
use Rattle.std.proofs.lemmas.List.{get_or-map, length-map}
use Rattle.encoding.specs.Lists.{item}

pub viewed_at : {X Y : Type 0} (f : X → Y) (xs : List X) (i : ℕ) (x : X) (d : Y) → i < length xs → x ≡ get_or xs i x → get_or (map f xs) i d ≡ f x
viewed_at f xs i x d l e = get_or-map f xs i x d l ∙ ap f (sym e)

pub viewed_within : {X Y : Type 0} (f : X → Y) (xs : List X) (i : ℕ) → i < length xs → i < length (map f xs)
viewed_within f xs i l = omega (arith, length-map xs f)

pub viewed_past : {X Y : Type 0} (f : X → Y) (xs : List X) (i : ℕ) → length xs ≤ i → length (map f xs) ≤ i
viewed_past f xs i l = omega (arith, length-map xs f)

pub viewed_none : {X Y : Type 0} (f : X → Y) (xs : List X) → eqb (length xs) 0 ≡ true → length (map f xs) ≡ 0
viewed_none f xs e = length-map xs f ∙ eqb-true (length xs) 0 e

pub viewed_some : {X Y : Type 0} (f : X → Y) (xs : List X) → eqb (length xs) 0 ≡ false → 0 < length (map f xs)
viewed_some f [] e = absurd (eqb-false 0 0 e refl)
viewed_some f (x ∷ xs) e = omega arith

pub item_viewed : {X Y : Type 0} (f : X → Y) (xs : List X) (i : ℕ) → item (map f xs) i ≡ option_map f (item xs i)
item_viewed f [] i = refl
item_viewed f (x ∷ xs) zero = refl
item_viewed f (x ∷ xs) (suc i) = item_viewed f xs i
