use Rattle.ciphers.proofs.Columns.{key-added}
use Rattle.ciphers.proofs.aes.rounds.add_round_key.Goals as goal

pub returns : goal.returns
returns c = key-added c.args.s c.args.k
