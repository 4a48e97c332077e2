use Rattle.std.proofs.Common.{◌≡◌, ◌++◌, drop, string_bytes}
use Rattle.sheet.specs.Rows.{rows, sheet_of}
use Rattle.sheet.proofs.keys.keys.Given as goal

abbrev pub invariant-loop-at : goal.invariant-loop-at
invariant-loop-at l = string_bytes l.text ++ rows l.initial.manager.primary_key_id (drop l.at l.initial.manager.keys) ≡ sheet_of l.initial.manager
