use Rattle.std.proofs.Common.{refl}
use Rattle.std.proofs.lemmas.Result.{err_from_is_err_and}
use Rattle.encoding.specs.Lists.{list}
use Rattle.encoding.proofs.Nested.{each_number, each_pushed, each_bad}
use Rattle.encoding.proofs.member.BoundedMember.fill.Goals as goal

pub returns-in_err-bytes-clause-step : goal.returns-in_err-bytes-clause-step
returns-in_err-bytes-clause-step g c = λ k.
    let p = err_from_is_err_and c.from_residual.result c.from_residual.ensures.1 in
    rw (p.1, c.in_err-bytes.ensures.1.1) (refl, λ new gs _. each_number g.R.Message.fields k (list new) (list c.args.self.now) k _ gs)

pub returns-in_err-read-clause-step : goal.returns-in_err-read-clause-step
returns-in_err-read-clause-step g c = λ k.
    let p = err_from_is_err_and c.from_residual-in_err-read.result c.from_residual-in_err-read.ensures.1 in
    rw (p.1, c.in_ok-bytes.ensures) (refl, λ new gs _. each_bad g.R.Message.fields k (list c.args.self.now) (list new) _ _ gs c.in_err-read.ensures)

pub returns-clause-step : goal.returns-clause-step
returns-clause-step g c = λ k. rw c.in_ok-bytes.ensures (each_pushed g.R.Message.fields k c.push.result c.args.self.now c.push.new.self c.in_ok-read.field-0 _ c.in_ok-read.ensures c.push.ensures)
