use Rattle.std.proofs.Common.{◌<◌, length, arith}
use Rattle.ciphers.specs.Tagging.{progress, mac_key}
use Rattle.ciphers.proofs.InPieces.{holds_byte}
use Rattle.ciphers.proofs.cmac.Running.hold.Goals as goal

pub returns : goal.returns
unfolding progress
returns c =
    let self = c.args.self.now in
    let inside : self.n < length self.block = omega arith in
    holds_byte (mac_key self.mac.now) self.x self.block self.n c.args.b inside
