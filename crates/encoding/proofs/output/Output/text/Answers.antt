use Rattle.std.proofs.Common.{sym, arith}
use Rattle.std.proofs.lemmas.Bool.{eqb-true, eqb-false}
use Rattle.encoding.specs.Layings.{then, laid_as, laid_empty}
use Rattle.encoding.specs.Parts.{text-bytes, text-none}
use Rattle.encoding.proofs.output.Output.text.Goals as goal

pub returns-then-is_empty : goal.returns-then-is_empty
returns-then-is_empty c = laid_empty _ _ (text-none c.args.field c.args.from.now (eqb-true _ 0 (sym c.if-is_empty.ensures)))

pub returns : goal.returns
returns c = laid_as _ _ _ _ (sym (text-bytes c.args.field c.args.from.now (eqb-false _ 0 (sym c.if-is_empty.ensures)))) (then _ _ _ _ _ (omega (arith, c.well_formed)) c.head.ensures c.bytes.ensures)
