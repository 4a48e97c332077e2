use Rattle.std.proofs.Common.{◌≡◌, map, drop}
use Rattle.encoding.specs.Views.{key_view}
use Rattle.keysets.specs.Checks.{checked_key, each_key}
use Rattle.keysets.proofs.check.check.Given as goal

abbrev pub invariant-loop-i : goal.invariant-loop-i
invariant-loop-i l = each_key checked_key l.i-counter (drop l.i-counter (map key_view l.key-items)) ≡ each_key checked_key 0 (map key_view l.key-items)
