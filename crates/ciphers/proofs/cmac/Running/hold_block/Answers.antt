use Rattle.std.proofs.Common.{◌≡◌, length, rules}
use Rattle.ciphers.specs.Tagging.{progress, mac_key}
use Rattle.ciphers.proofs.InPieces.{holds_block}
use Rattle.ciphers.proofs.cmac.Running.hold_block.Goals as goal

pub returns : goal.returns
unfolding progress
returns c =
    let self = c.args.self.now in
    let whole : length c.args.block ≡ 16 = search rules in
    holds_block (mac_key self.mac.now) self.x self.block c.args.block self.n c.requires whole
