-- What a writer laid at the front of an output.
use Rattle.std.proofs.Common.{◌≡◌, ℕ, ◌≤◌, List, ◌++◌, length, take, drop, sym, ap, ◌∙◌, arith}
use Rattle.std.proofs.lemmas.List.{take_at, length-append}
use Rattle.encoding.specs.Messages.{Wrote}

pub wrote-within : (xs old new : List ℕ) (n : ℕ) → Wrote xs old new n → n ≤ length new
wrote-within xs old new n w =
    let len : length new ≡ length (xs ++ drop n old) = ap length w.after in
    let long = length-append xs (drop n old) in
    omega (arith, w.size)

pub wrote-front : (xs old new : List ℕ) (n : ℕ) → Wrote xs old new n → take n new ≡ xs
wrote-front xs old new n w = ap (take n) w.after ∙ take_at xs (drop n old) n (sym w.size)
