use Rattle.ciphers.proofs.Columns.{stored}
use Rattle.ciphers.proofs.aes.rounds.store.Goals as goal

pub returns : goal.returns
returns c = stored c.args.w _ _ _ _ c.to_be_bytes-a.ensures c.to_be_bytes-b.ensures c.to_be_bytes-c.ensures c.to_be_bytes-d.ensures
