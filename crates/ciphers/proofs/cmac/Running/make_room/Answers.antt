use Rattle.std.proofs.Common.{ap, ◌∙◌, arith}
use Rattle.std.proofs.lemmas.List.{length-take-le}
use Rattle.ciphers.specs.Tagging.{Progress, progress, absorbed}
use Rattle.ciphers.proofs.InPieces.{absorbed-turned}
use Rattle.ciphers.proofs.cmac.Running.make_room.Goals as goal

pub returns-then-self-eq16 : goal.returns-then-self-eq16
unfolding progress
returns-then-self-eq16 c =
    let self = c.args.self.now in
    let held = length-take-le self.n self.block (omega arith) in
    record {
      room = omega arith;
      after = λ m some. ap (λ (p : Progress). absorbed p m) c.turn.ensures.after ∙ absorbed-turned (progress self) m (held ∙ c.if-self-eq16.true) some;
    }
