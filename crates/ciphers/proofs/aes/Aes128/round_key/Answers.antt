use Rattle.ciphers.proofs.Expanding.{round_key_lem}
use Rattle.ciphers.proofs.aes.Aes128.round_key.Goals as goal

pub returns : goal.returns
returns c = round_key_lem c.args.self.now.words c.args.i c.args.self.now.full c.requires
