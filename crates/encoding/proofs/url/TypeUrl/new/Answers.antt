use Rattle.std.proofs.Common.{◌≡◌, true, false, ap, ◌∙◌, arith, rules}
use borrow.Author.Tests.{tests}
use Rattle.std.proofs.lemmas.Iterator.{cases_from_all, YieldsList-from_slice}
use Rattle.encoding.specs.Lists.{visible, visible_byte}
use Rattle.encoding.proofs.Urls.{visible_bad, visible_all}
use Rattle.encoding.proofs.url.TypeUrl.new.Goals as goal

pub returns-then-not-all : goal.returns-then-not-all
returns-then-not-all c =
    let r = cases_from_all _ _ _ (λ b. visible_byte b ≡ true) (λ b. visible_byte b ≡ false) c.if-not-all.ensures.ran (YieldsList-from_slice c.args.bytes.now cc) (λ x q k. search (rules, tests)) (λ x q k. search (rules, tests)) in
    (c.broken.ensures, λ p. visible_bad c.args.bytes.now r.0 r.1 (r.2 0) p.1)

pub invariant_of-result : goal.invariant_of-result
invariant_of-result c =
    let r = cases_from_all _ _ _ (λ b. visible_byte b ≡ true) (λ b. visible_byte b ≡ false) c.if-not-all.ensures.ran (YieldsList-from_slice c.args.bytes.now cc) (λ x q k. search (rules, tests)) (λ x q k. search (rules, tests)) in
    let e = c.in_ok-text.ensures in
    record { seen = ap visible e.0 ∙ visible_all c.args.bytes.now (λ k d l. r k d (omega arith) l); clean = e.1 }
