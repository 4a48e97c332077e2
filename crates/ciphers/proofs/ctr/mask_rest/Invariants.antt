use Rattle.std.proofs.Common.{◌≡◌, ◌++◌, take, drop}
use Rattle.ciphers.specs.Bytes.{xors}
use Rattle.ciphers.proofs.ctr.mask_rest.Given as goal

abbrev pub invariant-loop-i : goal.invariant-loop-i
invariant-loop-i l = l.out ≡ xors (take l.i l.text) l.stream ++ drop l.i l.initial.out
