use Rattle.std.proofs.Common.{ℕ, ◌+◌, List, ◌∷◌, Ok, Option, sym, ap, ◌∙◌}
use Rattle.keysets.specs.Adding.{DrawnId, id_answer, words_after_id}
use Rattle.keysets.proofs.Ids.{drew, left-more, passed, taken, counted_more}
use Rattle.keysets.proofs.manager.Manager.new_key_id.Goals as goal

pub loop-word-preserved : goal.loop-word-preserved
loop-word-preserved g c =
    let ks = c.args.self.now.keys in
    let all = g.D.Draws.left c.args.words.now in
    let after = g.D.Draws.left c.draw.new.self in
    let w = c.in_ok-word.word in
    let inv = c.loop-word.invariant in
    let k = inv.0 in
    let here = drew _ w c.in_ok-word.ensures.word ∙ ap (λ (l : List ℕ). w ∷ l) (sym c.draw.ensures.rest) in (
      k + 1,
      c.saturating_add-taken.ensures ∙ counted_more k _ inv.1,
      left-more ks all _ after k w inv.2 inv.3 here,
      passed ks all _ after k w inv.2 inv.3 here (sym c.is_present.ensures ∙ c.if-not-is_present.false),
    )

pub returns-then-not-is_present : goal.returns-then-not-is_present
returns-then-not-is_present g c =
    let ks = c.args.self.now.keys in
    let all = g.D.Draws.left c.args.words.now in
    let after = g.D.Draws.left c.draw.new.self in
    let w = c.in_ok-word.word in
    let inv = c.loop-word.invariant in
    let k = inv.0 in
    let here = drew _ w c.in_ok-word.ensures.word ∙ ap (λ (l : List ℕ). w ∷ l) (sym c.draw.ensures.rest) in
    let id = taken ks all _ after k w inv.2 inv.3 here (sym c.is_present.ensures ∙ c.if-not-is_present.true) in
    let count = c.saturating_add-taken.ensures ∙ counted_more k _ inv.1 in
    record {
      id = ap (λ (n : ℕ). Ok (w, n)) count ∙ sym (ap id_answer id);
      words = left-more ks all _ after k w inv.2 inv.3 here ∙ sym (ap (λ (o : Option DrawnId). words_after_id o all) id);
    }
