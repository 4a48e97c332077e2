use Rattle.std.proofs.Common.{length, sym, refl, ap, ◌∙◌, arith}
use Rattle.encoding.specs.Parts.{text-none, text-size}
use Rattle.encoding.proofs.sizes.text_len.Goals as goal

pub returns-then-len-eq0 : goal.returns-then-len-eq0
returns-then-len-eq0 c = λ k b l e. omega (arith, ap length (text-none k b (sym e ∙ c.if-len-eq0.true)))

pub returns : goal.returns
returns c = λ k b l e. omega (arith, text-size k c.args.len _ b c.if-len-eq0.false e refl, c.field_len.ensures k b l e)
