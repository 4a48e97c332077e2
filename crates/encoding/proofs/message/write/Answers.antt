use Rattle.std.proofs.Common.{sym, refl, arith, rules}
use Rattle.std.proofs.lemmas.Bool.{leb-true}
use Rattle.encoding.specs.Layings.{wrote}
use Rattle.encoding.proofs.message.write.Goals as goal

pub returns : goal.returns
returns g c = wrote _ _ _ _ _ c.put.new.out refl refl (leb-true _ _ (sym c.if-not-fits.ensures)) (omega (arith, c.well_formed)) c.put.ensures (search rules) refl
