-- A law of every byte, from one computed test over all of them.
use Rattle.std.proofs.Common.{◌≡◌, ℕ, ◌+◌, ◌<◌, List, map, get_or, sym, ap, ◌∙◌}
use Rattle.std.specs.List.{range_with_len}
use Rattle.std.proofs.lemmas.List.FromFn.{get_or-map-range_with_len}

-- two functions that agree at each of the n numbers from a on
pub agree : (f g : ℕ → ℕ) (a n : ℕ) → map f (range_with_len a n) ≡ map g (range_with_len a n) → (i x : ℕ) → i < n → a + i ≡ x → f x ≡ g x
agree f g a n whole i x h e =
    sym (get_or-map-range_with_len f a n i x 0 h e) ∙ (ap (λ (l : List ℕ). get_or l i 0) whole ∙ get_or-map-range_with_len g a n i x 0 h e)
