use Rattle.std.proofs.Common.{sym, ap, ◌∙◌}
use Rattle.std.proofs.lemmas.Result.{err_from_is_err_and}
use Rattle.std.proofs.lemmas.Bool.{not-true, not-false, cond-true}
use Rattle.encoding.specs.Meanings.{KeyMeaning}
use Rattle.encoding.specs.Kinds.{status_of}
use Rattle.keysets.specs.Edits.{takes, key_after, keyset_after}
use Rattle.keysets.proofs.Answers.{held, failed}
use Rattle.keysets.proofs.Editing.{edited_spared, edited_missing, edited-barred, edited-taken, as_refused, as_accepted}
use Rattle.keysets.proofs.manager.Manager.edit.Goals as goal

pub returns-in_err-check_spared : goal.returns-in_err-check_spared
returns-in_err-check_spared c =
    let s = c.args.self.now in
    let p = err_from_is_err_and c.from_residual.result c.from_residual.ensures.1 in
    let t = failed _ _ _ c.in_err-check_spared.ensures in
    let w = as_refused c.args.edit c.args.id s _ _ _ (edited_spared _ _ s (not-false _ t.0)) p.1 (p.2 ∙ t.1) in
    record { after = w.0; value = w.1 }

pub returns-in_err-found : goal.returns-in_err-found
returns-in_err-found c =
    let s = c.args.self.now in
    let free = not-true _ (held _ _ c.in_ok-check_spared.ensures) in
    let p = err_from_is_err_and c.from_residual-in_err-found.result c.from_residual-in_err-found.ensures.1 in
    let t = c.in_err-found.ensures in
    let w = as_refused c.args.edit c.args.id s _ _ _ (edited_missing _ _ s free t.0) p.1 (p.2 ∙ t.1) in
    record { after = w.0; value = w.1 }

pub returns-in_err-edit_key : goal.returns-in_err-edit_key
returns-in_err-edit_key c =
    let s = c.args.self.now in
    let free = not-true _ (held _ _ c.in_ok-check_spared.ensures) in
    let p = err_from_is_err_and c.from_residual-in_err-edit_key.result c.from_residual-in_err-edit_key.ensures.1 in
    let found = c.in_ok-found.ensures in
    let t = failed _ _ _ c.in_err-edit_key.ensures.value in
    let bars = ap (λ (k : KeyMeaning). takes c.args.edit (status_of k.status)) (sym found.1) ∙ t.0 in
    let w = as_refused c.args.edit c.args.id s _ _ _ (edited-barred _ _ _ s free found.0 bars) p.1 (p.2 ∙ t.1) in
    record { after = w.0; value = w.1 }

pub returns : goal.returns
returns c =
    let s = c.args.self.now in
    let e = c.args.edit in
    let free = not-true _ (held _ _ c.in_ok-check_spared.ensures) in
    let found = c.in_ok-found.ensures in
    let t = held _ _ c.in_ok-edit_key.ensures.value in
    let takes_it = ap (λ (k : KeyMeaning). takes e (status_of k.status)) (sym found.1) ∙ t in
    let w = as_accepted e c.args.id s _ (edited-taken _ _ _ s free found.0 takes_it) in
    let key = c.in_ok-edit_key.ensures.after ∙ cond-true _ _ _ t ∙ ap (key_after e) found.1 in
    record { after = c.put_back.ensures ∙ ap (λ (k : KeyMeaning). keyset_after e c.args.id c.in_ok-found.found.at k s) key ∙ w.0; value = w.1 }
