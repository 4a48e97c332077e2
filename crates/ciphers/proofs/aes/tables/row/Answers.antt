use Rattle.std.proofs.Common.{rules}
use Rattle.ciphers.specs.Gf256.{mul, s_box}
use Rattle.ciphers.proofs.Tables.{tables_are}
use Rattle.ciphers.proofs.aes.tables.row.Goals as goal

pub returns : goal.returns
unfolding mul s_box
returns g c = tables_are g.row.R c.args.x c.requires (search rules)
