use Rattle.std.proofs.Common.{◌≡◌, ℕ, ◌+◌, List, [], ◌++◌, drop, string_bytes, sym, ap, ◌∙◌, arith, rules}
use Rattle.std.proofs.lemmas.List.{append-nil}
use Rattle.sheet.specs.Rows.{rows, text_of}
use Rattle.sheet.proofs.Listed.{listed, pushed, whole}
use Rattle.sheet.proofs.keys.keys.Goals.{in-Some+in_ok-write, in_default}
use Rattle.sheet.proofs.keys.keys.Goals as goal

pub returns : goal.returns
returns c =
    let s = c.args.manager.now in
    whole s.primary_key_id s.keys c.loop-at.at _ _ (omega (arith, c.loop-at-test.false, c.key_count-at-end.ensures)) c.loop-at.invariant

pub loop-at-preserved : goal.loop-at-preserved
loop-at-preserved c =
    let s = c.args.manager.now in
    let old = string_bytes c.loop-at.text in
    elim c.match-row_at.branch [
      | in-Some+in_ok-write w ↦
          let grown : string_bytes c.match-row_at.text ≡ old ++ text_of w.in-Some.row = search rules in
          ap (λ (l : List ℕ). l ++ rows s.primary_key_id (drop (c.loop-at.at + 1) s.keys)) grown ∙ pushed s.primary_key_id s.keys c.loop-at.at _ _ _ c.loop-at.invariant (ap listed w.in-Some.ensures)
      | in_default w ↦
          let same : string_bytes c.match-row_at.text ≡ old ++ [] = ap string_bytes w.text-is ∙ sym (append-nil old) in
          ap (λ (l : List ℕ). l ++ rows s.primary_key_id (drop (c.loop-at.at + 1) s.keys)) same ∙ pushed s.primary_key_id s.keys c.loop-at.at _ _ _ c.loop-at.invariant (ap listed w.in_default.ensures)
    ]
