use Rattle.std.proofs.Common.{vec_items, rules}
use Rattle.rows.proofs.Decoded.{told}
use Rattle.rows.proofs.read.Goals as goal

pub returns-clause-value : goal.returns-clause-value
returns-clause-value c = told vec_items c.args.text.now c.decode.result c.map_err.result _ (search rules) (search rules) c.decode.ensures.ok c.map_err.ensures.cases
