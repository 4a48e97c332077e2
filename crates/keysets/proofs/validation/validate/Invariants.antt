use Rattle.std.proofs.Common.{◌≡◌, map, drop}
use Rattle.encoding.specs.Views.{key_view}
use Rattle.keysets.proofs.Judging.{judged, unseen}
use Rattle.keysets.proofs.validation.validate.Given as goal

abbrev pub invariant-loop-i : goal.invariant-loop-i
invariant-loop-i l = judged l.primary l.seen l.i-counter (drop l.i-counter (map key_view l.keys)) ≡ judged l.primary unseen 0 (map key_view l.keys)
