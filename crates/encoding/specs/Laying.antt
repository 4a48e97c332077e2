-- Writing without asking for room: what fits is written, and the answer is where the whole would end, as C's snprintf does.
use Rattle.std.specs.Prelude.{◌≡◌, ℕ, zero, suc, ◌+◌, ◌-◌, ◌^◌, min, List, [], ◌∷◌, length}
use Rattle.encoding.specs.declared.output.Output.{Output}

-- an output with `xs` laid over it from a place on, as far as it reaches
unfoldable pub laid : ℕ → List ℕ → List ℕ → List ℕ
laid at xs [] = []
laid zero [] (o ∷ os) = o ∷ os
laid zero (x ∷ xs) (o ∷ os) = x ∷ laid zero xs os
laid (suc at) xs (o ∷ os) = o ∷ laid at xs os

-- where xs from a place on end, or the largest number there is
abbrev pub onward : ℕ → List ℕ → ℕ
onward at [] = at
onward at (x ∷ xs) = min (at + length (x ∷ xs)) (2 ^ 64 - 1)

-- `xs` was laid over an output from its place on, which is now where the whole would end; and it is the same
-- output still
pub record Laid (xs : List ℕ) (old new : Output) : Type 0 where
  pub after : new.out.now ≡ laid old.at xs old.out.now
  pub ends : new.at ≡ onward old.at xs
  pub lent : new.out.ghost_name ≡ old.out.ghost_name

-- how many bytes xs is, or the largest number there is
abbrev pub Counted : List ℕ → ℕ → Type 0
Counted xs n = n ≡ min (length xs) (2 ^ 64 - 1)
