use Rattle.std.proofs.Common.{ℕ, ◌-◌, ◌^◌, length, min, List, Option, sym, ap, ◌∙◌}
use Rattle.encoding.specs.Wire.{encode}
use Rattle.encoding.specs.Members.{present}
use Rattle.encoding.specs.Parts.{encode_one}
use Rattle.encoding.proofs.member.OptionMember.size.Goals as goal

pub returns-in-None : goal.returns-in-None
unfolding encode
returns-in-None g c = λ k l. sym (ap (λ (o : Option g.row.R.Denot). min (length (encode (present g.R.Message.fields k o))) (2 ^ 64 - 1)) c.in-None.is)

pub returns-in-Some : goal.returns-in-Some
returns-in-Some g c = λ k l.
    c.record_len.ensures k l ∙ ap (λ (x : List ℕ). min (length x) (2 ^ 64 - 1)) (sym (encode_one _) ∙ sym (ap (λ (o : Option g.row.R.Denot). encode (present g.R.Message.fields k o)) c.in-Some.is))
