use Rattle.std.proofs.Common.{◌≡◌, ℕ, ◌-◌, ◌^◌, ◌<◌, min, length, take}
use Rattle.encoding.specs.Wire.{encode}
use Rattle.encoding.specs.Members.{each}
use Rattle.encoding.proofs.member.BoundedMember.size.Given as goal

abbrev pub invariant-loop-one : goal.invariant-loop-one
invariant-loop-one g l = (k : ℕ) → k < 16 → l.total ≡ min (length (encode (each g.R.Message.fields k (take l.one-index l.one-items)))) (2 ^ 64 - 1)
