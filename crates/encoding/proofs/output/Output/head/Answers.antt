use Rattle.std.proofs.Common.{arith}
use Rattle.encoding.specs.Layings.{then}
use Rattle.encoding.proofs.output.Output.head.Goals as goal

pub returns : goal.returns
returns c = then _ _ _ _ _ (omega (arith, c.well_formed)) c.varint.ensures c.varint-2.ensures
