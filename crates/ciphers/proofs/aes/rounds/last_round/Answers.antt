use Rattle.ciphers.proofs.Columns.{last_columns, picked_of}
use Rattle.ciphers.proofs.aes.rounds.last_round.Goals as goal

pub returns : goal.returns
unfolding picked_of
returns c =
    last_columns c.args.s c.args.k _ _ _ _ _ _ _ _
    c.to_be_bytes-a.ensures c.to_be_bytes-b.ensures c.to_be_bytes-c.ensures c.to_be_bytes-d.ensures
    c.sub_bytes.ensures c.sub_bytes-2.ensures c.sub_bytes-3.ensures c.sub_bytes-4.ensures
