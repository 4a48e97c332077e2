use Rattle.std.proofs.Common.{◌≡◌, ◌-◌, length, take, drop, ap, ◌∙◌, arith, rules}
use Rattle.ciphers.specs.Tagging.{progress, absorbed, tag_of}
use Rattle.ciphers.proofs.Ends.{end_absorbed}
use Rattle.ciphers.proofs.siv.s2v.end_tag.Goals as goal

pub returns : goal.returns
returns c =
    let rest = c.args.rest.now in
    let from = length rest - 16 in
    let p = progress c.args.running.now in
    let before : c.unwrap.result.0.now ≡ take from rest = search rules in
    let last : c.unwrap.result.1.now ≡ drop from rest = search rules in
    c.finish.ensures.value ∙
    ap tag_of (end_absorbed p _ _ rest c.args.d _ _ from (omega arith) (c.absorb.ensures ∙ ap (absorbed p) before) last c.xor.ensures c.absorb-2.ensures)
