use Rattle.std.proofs.Common.{sym, refl, arith}
use Rattle.encoding.specs.Wire.{encode}
use Rattle.encoding.specs.Layings.{then, laid_as, laid_empty}
use Rattle.encoding.specs.Parts.{each_more}
use Rattle.encoding.proofs.member.BoundedMember.put.Goals as goal

pub loop-item-init : goal.loop-item-init
unfolding encode
loop-item-init g c = laid_empty _ _ refl

pub loop-item-preserved : goal.loop-item-preserved
loop-item-preserved g c =
    laid_as _ _ _ _ (sym (each_more g.R.Message.fields c.args.field c.as_slice-item-items.result.now c.loop-item.item-index c.item-item.result c.loop-item-test.true c.item-item.is))
    (then _ _ _ _ _ (omega (arith, c.well_formed)) c.loop-item.invariant c.record.ensures)
