use Rattle.std.proofs.Common.{refl}
use Rattle.ciphers.proofs.Columns.{xor_of}
use Rattle.ciphers.proofs.aes.rounds.column.Goals as goal

pub returns : goal.returns
returns c =
    xor_of _ c.args.k _ _
    (xor_of _ c.row-4.result _ _ (xor_of _ c.row-3.result _ _ (xor_of c.row.result c.row-2.result _ _ c.row.ensures c.row-2.ensures) c.row-3.ensures) c.row-4.ensures)
    refl
