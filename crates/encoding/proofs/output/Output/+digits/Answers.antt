use Rattle.std.proofs.Common.{◌+◌, ◌-◌, ◌/◌, ◌%◌, [], ◌∷◌, sym, arith}
use Rattle.encoding.specs.Wire.{base128}
use Rattle.encoding.specs.Varints.{cap_last, base128_end, base128_on, cap_on}
use Rattle.encoding.specs.Layings.{then, laid_as}
use Rattle.encoding.proofs.output.Output.+digits.Goals as goal

pub overflow_cast-value : goal.overflow_cast-value
overflow_cast-value t c = omega (arith, cap_last c.args.left c.args.value c.requires.small c.then-left-eq0.either)

pub returns-then-left-eq0 : goal.returns-then-left-eq0
returns-then-left-eq0 t c = laid_as _ _ _ _ (sym (base128_end c.args.left c.args.value c.requires.small c.then-left-eq0.either)) c.byte.ensures

pub digits-requires : goal.digits-requires
digits-requires t c = (omega arith, cap_on c.args.left c.args.value c.if-left-eq0.false c.requires.small)

pub returns : goal.returns
returns t c =
    laid_as _ _ _ _ (sym (base128_on c.args.left c.args.value c.if-left-eq0.false c.if-value-lt128.false))
    (then ((c.args.value % 128 + 128) ∷ []) (base128 (c.args.left - 1) (c.args.value / 128)) c.args.self.now _ _ (omega (arith, c.well_formed)) c.byte-2.ensures c.digits.ensures)
