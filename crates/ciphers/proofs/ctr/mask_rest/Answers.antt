use Rattle.std.proofs.Common.{◌≡◌, length, get_or, set, ap, ◌∙◌, arith, rules}
use lib.Bits.{bit_xor}
use Rattle.std.proofs.lemmas.List.{take_all}
use Rattle.ciphers.proofs.Masking.{rest_more}
use Rattle.ciphers.proofs.ctr.mask_rest.Goals as goal

pub loop-i-preserved : goal.loop-i-preserved
loop-i-preserved c =
    let text = c.args.text.now in
    let stream = c.args.stream in
    let i = c.loop-i.i in
    let whole : length stream ≡ 16 = search rules in
    ap (λ (l : _). set l i (bit_xor (get_or text i 0) (get_or stream i 0))) c.loop-i.invariant ∙
    rest_more c.args.out.now text stream i (omega arith) (omega arith) (omega arith)

pub returns : goal.returns
returns c =
    let text = c.args.text.now in
    let end : c.loop-i.i ≡ length text = omega arith in
    let all = take_all (length text) text (omega arith) in
    let kept = c.loop-i.invariant in
    cc
