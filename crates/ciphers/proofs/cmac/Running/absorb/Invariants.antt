use Rattle.std.proofs.Common.{◌≡◌, length}
use Rattle.ciphers.specs.Tagging.{progress, absorbed}
use Rattle.ciphers.proofs.cmac.Running.absorb.Given as goal

abbrev pub invariant-loop-rest : goal.invariant-loop-rest
invariant-loop-rest l = absorbed (progress l.self) l.rest ≡ absorbed (progress l.initial.self) l.fn.piece

abbrev pub decreases-loop-rest : goal.decreases-loop-rest
decreases-loop-rest l = length l.rest
