use Rattle.std.proofs.Common.{◌≡◌, [], Some, None, Option, refl, sym, ap, ◌∙◌}
use Rattle.encoding.specs.Wire.{encode}
use Rattle.encoding.specs.Members.{present}
use Rattle.encoding.specs.Layings.{laid_as, laid_empty}
use Rattle.encoding.specs.Parts.{encode_one}
use Rattle.encoding.proofs.member.OptionMember.put.Goals as goal

pub returns-in-Some : goal.returns-in-Some
returns-in-Some g c =
    laid_as _ _ _ _ (sym (encode_one _) ∙ sym (ap (λ (o : Option g.row.R.Denot). encode (present g.R.Message.fields c.args.field o)) c.in-Some.is)) c.record.ensures

pub returns-in_default : goal.returns-in_default
unfolding encode
returns-in_default g c = laid_empty _ _ (none c.args.self.now c.in_default.not-Some)
  where
    none : (o : Option g.row.R.Denot) → ((r : g.row.R.Denot) → o ≡ Some r → ⊥) → encode (present g.R.Message.fields c.args.field o) ≡ []
    none None h = refl
    none (Some r) h = absurd (h r refl)
