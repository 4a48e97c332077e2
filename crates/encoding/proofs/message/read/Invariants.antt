use Rattle.std.proofs.Common.{◌≡◌, ◌-◌, ◌≤◌, length, take}
use Rattle.encoding.specs.Wire.{encode}
use Rattle.encoding.specs.Messages.{last_of}
use Rattle.encoding.proofs.message.read.Given as goal

abbrev pub invariant-loop-at : goal.invariant-loop-at
invariant-loop-at g l = (l.at ≤ length l.input) × (encode (g.R.Message.fields l.made) ≡ take l.at l.input) × (l.last ≡ last_of 0 (g.R.Message.fields l.made))

abbrev pub decreases-loop-at : goal.decreases-loop-at
decreases-loop-at g l = length l.input - l.at
