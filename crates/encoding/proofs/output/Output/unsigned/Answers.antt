use Rattle.std.proofs.Common.{sym, arith}
use Rattle.encoding.specs.Layings.{then, laid_as, laid_empty}
use Rattle.encoding.specs.Parts.{number-bytes, number-none}
use Rattle.encoding.proofs.output.Output.unsigned.Goals as goal

pub returns-then-value-eq0 : goal.returns-then-value-eq0
returns-then-value-eq0 c = laid_empty _ _ (number-none c.args.field c.args.value c.if-value-eq0.true)

pub returns : goal.returns
returns c = laid_as _ _ _ _ (sym (number-bytes c.args.field c.args.value c.if-value-eq0.false)) (then _ _ _ _ _ (omega (arith, c.well_formed)) c.varint.ensures c.varint-2.ensures)
