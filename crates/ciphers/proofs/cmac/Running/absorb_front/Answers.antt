use Rattle.std.proofs.Common.{ap, ◌∙◌, arith}
use Rattle.std.proofs.lemmas.List.{take_rest, length-take-le}
use Rattle.ciphers.specs.Tagging.{progress, absorbed, held_with}
use Rattle.ciphers.proofs.InPieces.{front_block, front_byte}
use Rattle.ciphers.proofs.cmac.Running.absorb_front.Goals as goal

pub returns-then-more-ge16-clause-after : goal.returns-then-more-ge16-clause-after
unfolding progress
returns-then-more-ge16-clause-after c =
    let self = c.make_room.new.self in
    let more = c.args.more.now in
    let held = length-take-le self.n self.block (omega arith) in
    let block = c.hold_block.ensures ∙ ap (held_with (progress self)) c.front.ensures in
    ap (absorbed (progress c.hold_block.new.self)) (take_rest more 16) ∙
    (front_block (progress self) _ more c.if-more-ge16.true (held ∙ c.if-self-eq0.true) block ∙ c.make_room.ensures.after more c.requires)

pub returns-clause-after : goal.returns-clause-after
unfolding progress
returns-clause-after c =
    let self = c.make_room.new.self in
    let more = c.args.more.now in
    let held = length-take-le self.n self.block (omega arith) in
    let room = c.make_room.ensures.room in
    ap (absorbed (progress c.hold.new.self)) (take_rest more 1) ∙
    (front_byte (progress self) _ more c.requires (omega arith) c.hold.ensures ∙ c.make_room.ensures.after more c.requires)
