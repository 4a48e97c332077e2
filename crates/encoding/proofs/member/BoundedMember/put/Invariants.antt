use Rattle.std.proofs.Common.{take}
use Rattle.encoding.specs.Wire.{encode}
use Rattle.encoding.specs.Members.{each}
use Rattle.encoding.specs.Laying.{Laid}
use Rattle.encoding.proofs.member.BoundedMember.put.Given as goal

abbrev pub invariant-loop-item : goal.invariant-loop-item
invariant-loop-item g l = Laid (encode (each g.R.Message.fields l.field (take l.item-index l.item-items))) l.initial.out l.out
