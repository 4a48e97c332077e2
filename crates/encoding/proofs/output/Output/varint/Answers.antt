use Rattle.std.proofs.Common.{◌+◌, ◌/◌, ◌%◌, [], ◌∷◌, sym, arith}
use Rattle.encoding.specs.Varints.{cap_nine, base128_last, base128_two}
use Rattle.encoding.specs.Layings.{then, laid_as}
use Rattle.encoding.proofs.output.Output.varint.Goals as goal

pub returns-then-value-lt128 : goal.returns-then-value-lt128
returns-then-value-lt128 c = laid_as _ _ _ _ (sym (base128_last 9 c.args.value (omega (arith, cap_nine)) c.if-value-lt128.true)) c.byte.ensures

pub returns-then-value-lt16384 : goal.returns-then-value-lt16384
returns-then-value-lt16384 c =
    laid_as _ _ _ _ (sym (base128_two c.args.value c.if-value-lt128.false c.if-value-lt16384.true))
    (then ((c.args.value % 128 + 128) ∷ []) ((c.args.value / 128) ∷ []) c.args.self.now _ _ (omega (arith, c.well_formed)) c.byte-then-value-lt16384.ensures c.byte-then-value-lt16384-2.ensures)

pub digits-requires : goal.digits-requires
digits-requires c = record { small = omega (arith, cap_nine) }
