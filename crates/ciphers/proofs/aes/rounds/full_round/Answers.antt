use Rattle.std.proofs.Common.{[], ◌∷◌}
use Rattle.ciphers.proofs.Columns.{round_columns, column_of}
use Rattle.ciphers.proofs.aes.rounds.full_round.Goals as goal

pub returns : goal.returns
unfolding column_of
returns c =
    round_columns c.args.s c.args.k (c.column.result ∷ c.column-2.result ∷ c.column-3.result ∷ c.column-4.result ∷ []) _ _ _ _
    c.to_be_bytes-a.ensures c.to_be_bytes-b.ensures c.to_be_bytes-c.ensures c.to_be_bytes-d.ensures
    c.column.ensures c.column-2.ensures c.column-3.ensures c.column-4.ensures
