use Rattle.std.proofs.Common.{◌≡◌, ℕ, eqb, List, length, drop, Ok, sym, ap, ◌∙◌, arith, rules}
use Rattle.std.proofs.lemmas.Bool.{cond-true, eq-eqb}
use Rattle.keysets.specs.Managers.{Making, key_answer, words_after}
use Rattle.keysets.proofs.Drawing.{four_drawn, four_made, four_bytes, sliced}
use Rattle.keysets.proofs.registry.cmac128.Cmac128KeyManager.new_key.Goals as goal

pub returns : goal.returns
returns g c =
    let ws = g.D.Draws.left c.args.words.now in
    let a = c.in_ok-draw.field-0 in
    let b = c.in_ok-draw-2.field-0 in
    let d = c.in_ok-draw-3.field-0 in
    let e = c.in_ok-draw-4.field-0 in
    let w4 = g.D.Draws.left c.draw-4.new.self in
    let all = four_drawn ws _ _ _ w4 a b d e
    c.in_ok-draw.ensures.word c.draw.ensures.rest c.in_ok-draw-2.ensures.word c.draw-2.ensures.rest
    c.in_ok-draw-3.ensures.word c.draw-3.ensures.rest c.in_ok-draw-4.ensures.word c.draw-4.ensures.rest in
    let format = c.args.serialized_key_format.now in
    let none : length format ≡ 0 = search rules in
    let making = cond-true (eqb (length format) 0) _ _ (eq-eqb (length format) 0 none) ∙ four_made ws w4 a b d e all in
    let key = four_bytes _ _ _ _ a b d e c.to_be_bytes-a.ensures c.to_be_bytes-b.ensures c.to_be_bytes-c.ensures c.to_be_bytes-d.ensures in
    record {
      key = sliced c.from_slice.result _ _ _ (omega arith) c.from_slice.ensures ∙ (ap (λ (k : List ℕ). Ok k) key ∙ sym (ap key_answer making));
      words = sym (ap (drop 4) all) ∙ sym (ap (λ (m : Making). words_after m ws) making);
    }
