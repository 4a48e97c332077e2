use Rattle.std.proofs.Common.{refl, ap, ◌∙◌}
use Rattle.ciphers.specs.Fips197.{cipher}
use Rattle.ciphers.specs.Tagging.{progress, mac_key}
use Rattle.ciphers.proofs.InPieces.{turned}
use Rattle.ciphers.proofs.cmac.Running.turn.Goals as goal

pub returns : goal.returns
unfolding progress
returns c =
    let self = c.args.self.now in
    let key = mac_key self.mac.now in
    record { room = refl; after = turned key self.x self.block _ self.n c.requires self.whole (c.encrypt-x.ensures ∙ ap (cipher key) c.xor-mixed.ensures) }
