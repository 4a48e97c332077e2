use Rattle.std.proofs.Common.{◌≡◌, map, drop}
use Rattle.encoding.specs.Views.{key_view}
use Rattle.keysets.specs.Edits.{position_of}
use Rattle.keysets.proofs.Positions.{from}
use Rattle.keysets.proofs.manager.Manager.find.Given as goal

abbrev pub invariant-loop-i : goal.invariant-loop-i
invariant-loop-i l = from l.i (position_of l.id (drop l.i (map key_view l.keys))) ≡ position_of l.id (map key_view l.keys)
