use Rattle.std.proofs.Common.{◌<◌, ◌≤◌, length, refl, ap, ◌∙◌, arith, length-append, length-set}
use Rattle.ciphers.specs.Fips197.{state_of}
use Rattle.ciphers.proofs.Expanding.{grown, key-kept, words_first, expanded_all}
use Rattle.ciphers.proofs.aes.schedule.expansion.Goals as goal

pub loop-i-init : goal.loop-i-init
loop-i-init c =
    let first = c.copy_from_slice.new.self in
    (length-append first _ ∙ omega (arith, c.copy_from_slice.ensures.len), refl, (words_first first _ c.copy_from_slice.ensures.len).1)

pub loop-i-preserved : goal.loop-i-preserved
loop-i-preserved c =
    let w = c.loop-i.w in
    let i = c.loop-i.i in
    let low : 4 ≤ i = omega arith in
    let inside : i < length w = omega arith in
    (length-set w i _ ∙ c.loop-i.invariant.0, key-kept w i _ low ∙ c.loop-i.invariant.1, grown _ w i c.temp.result low inside c.loop-i.invariant.2 c.temp.ensures)

-- the first four words are those of the key
pub returns : goal.returns
returns c =
    let first = c.copy_from_slice.new.self in
    let key = (words_first first _ c.copy_from_slice.ensures.len).0 ∙ (ap state_of c.copy_from_slice.ensures.after ∙ c.load.ensures) in
    record { key = c.loop-i.invariant.1 ∙ key; words = expanded_all c.loop-i.w _ c.args.key c.loop-i.i (omega arith) c.loop-i.invariant.0 key c.loop-i.invariant.2 }
