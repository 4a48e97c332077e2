use Rattle.std.proofs.Common.{◌≡◌, ℕ, ◌<◌, List, [], ◌∷◌, Some, inr, arith}
use Rattle.std.specs.List.{slice_get}
use Rattle.encoding.specs.Scanning.{unvarint}
use Rattle.encoding.specs.Varints.{un_last}
use Rattle.encoding.proofs.varint.take_varint.Goals as goal

one : (bs : List ℕ) (b : ℕ) → Some b ≡ slice_get bs 0 → b < 128 → Some (b, 1) ≡ unvarint 9 bs
one [] b e l = let z : ◌≡◌ {A = ℕ} 0 1 = cc in absurd (omega arith)
one (x ∷ xs) b e l = let s : x ∷ xs ≡ b ∷ xs = cc in un_last 9 (x ∷ xs) b xs s l (inr (omega arith))

pub returns-in-Some : goal.returns-in-Some
returns-in-Some c = one c.args.bytes.now c.in-Some.field-0.now c.in-Some.ensures.value c.if-b-lt128.true
