use Rattle.std.proofs.Common.{◌≡◌, List, ◌++◌, length, drop, Some, None, Err, Option, Bor, refl, subst, ap, ◌∙◌}
use Rattle.std.specs.Option.{MatchOption}
use Rattle.std.proofs.lemmas.Result.{err_from_is_err_and}
use Rattle.ciphers.specs.declared.fault.Fault.{Fault}
use Rattle.ciphers.specs.Covers.{uncovered}
use Rattle.ciphers.proofs.Refusing.{bytes_in, opens-plain, opening_refused, opening_passed}
use Rattle.ciphers.proofs.Seals.{opened-answer, opened-output}
use Rattle.ciphers.proofs.cover.PlainCoverAead.decrypt.Goals as goal

pub returns-in_err-plain : goal.returns-in_err-plain
returns-in_err-plain c =
    let o = uncovered c.args.ciphertext.now c.args.additional_data.now in
    let p = err_from_is_err_and c.from_residual.result c.from_residual.ensures.1 in
    let both = opening_refused bytes_in c.uncover.result o c.args.out.now c.check_opening.result _ (opens-plain c.uncover.result o c.uncover.ensures) c.check_opening.ensures c.in_err-plain.was in
    record { answer = p.1 ∙ (ap (λ (f : Fault). Err f) p.2 ∙ both.0); output = both.1 }

pub returns : goal.returns
returns c =
    let o = uncovered c.args.ciphertext.now c.args.additional_data.now in
    let out = c.args.out.now in
    let plain = c.in_ok-plain.plain.now in
    let passed = opening_passed bytes_in c.uncover.result o (length out) c.check_opening.result c.in_ok-plain.plain (opens-plain c.uncover.result o c.uncover.ensures) c.check_opening.ensures c.in_ok-plain.was in
    let opens : o ≡ Some plain = subst (λ (t : Option (Bor (List _))). MatchOption t (o ≡ None) (λ x. o ≡ Some x.now)) passed.0 c.uncover.ensures in
    record {
      answer = opened-answer o plain opens (length plain) refl (length out) passed.1;
      output = opened-output o plain opens (length plain) refl out _ passed.1 (ap (λ (l : List _). l ++ drop (length plain) out) c.copy_from_slice.ensures.after);
    }
