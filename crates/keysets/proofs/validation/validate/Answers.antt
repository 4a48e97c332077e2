use Rattle.std.proofs.Common.{◌≡◌, ◌+◌, ◌<◌, List, map, length, drop, Err, sym, ap, ◌∙◌, rules}
use Rattle.std.proofs.lemmas.Result.{err_from_is_err_and}
use Rattle.encoding.specs.Views.{key_view}
use Rattle.encoding.specs.declared.records.Key.{Key}
use Rattle.keysets.specs.Answering.{at_place}
use Rattle.keysets.specs.Validation.{placed_from, valid_among, valid}
use Rattle.keysets.specs.declared.validation.Seen.{Seen}
use Rattle.keysets.proofs.Answers.{gave, gave_none}
use Rattle.keysets.proofs.Elements.{viewed_at, viewed_within, viewed_past, viewed_none, viewed_some}
use Rattle.keysets.proofs.Judging.{judged, judged_none, judged_all, judged_ended, judged_invalid, judged_second, judged_passed}
use Rattle.keysets.proofs.validation.validate.Goals as goal

pub returns-then-is_empty : goal.returns-then-is_empty
unfolding valid
returns-then-is_empty c =
    let ks = c.as_slice-keys.result.now in
    let p = c.args.keyset.now.primary_key_id in
    ap Err c.new.ensures ∙ sym (judged_none p (map key_view ks) (viewed_none key_view ks (sym c.is_empty.ensures ∙ c.if-is_empty.true)))
    ∙ ap (λ (xs : List Key). valid_among p (placed_from 0 (map key_view xs))) c.as_slice-keys.ensures

pub returns-in_err-map_err : goal.returns-in_err-map_err
unfolding valid
returns-in_err-map_err c =
    let ks = c.as_slice-keys.result.now in
    let p = c.args.keyset.now.primary_key_id in
    let i = c.loop-i.i-counter in
    let k = c.index-keys-i.result in
    let lt : i < length ks = c.loop-i-test.true in
    let q = err_from_is_err_and c.from_residual.result c.from_residual.ensures.1 in
    let stop = judged_invalid p c.loop-i.seen i (map key_view ks) (key_view k) _ (viewed_within key_view ks i lt) (viewed_at key_view ks i k (key_view k) lt c.index-keys-i.is)
    (let place : c.map_err.result ≡ at_place i c.validate_key.result = search rules in sym c.in_err-map_err.was ∙ place ∙ ap (at_place i) c.validate_key.ensures) in
    q.1 ∙ ap Err q.2 ∙ sym stop ∙ c.loop-i.invariant ∙ judged_all p (map key_view ks) (viewed_some key_view ks (sym c.is_empty.ensures ∙ c.if-is_empty.false)) ∙ ap (λ (xs : List Key). valid_among p (placed_from 0 (map key_view xs))) c.as_slice-keys.ensures

pub returns-in_err-seen : goal.returns-in_err-seen
unfolding valid
returns-in_err-seen c =
    let ks = c.as_slice-keys.result.now in
    let p = c.args.keyset.now.primary_key_id in
    let i = c.loop-i.i-counter in
    let k = c.index-keys-i.result in
    let lt : i < length ks = c.loop-i-test.true in
    let q = err_from_is_err_and c.from_residual-in_err-seen.result c.from_residual-in_err-seen.ensures.1 in
    let stop = judged_second p c.loop-i.seen i (map key_view ks) (key_view k) _ (viewed_within key_view ks i lt) (viewed_at key_view ks i k (key_view k) lt c.index-keys-i.is)
    (let place : c.map_err.result ≡ at_place i c.validate_key.result = search rules in sym c.in_ok-map_err.was ∙ place ∙ ap (at_place i) c.validate_key.ensures)
    (gave_none i _ _ _ (let place : c.map_err-in-loop-i.result ≡ at_place i c.after.result = search rules in sym c.in_err-seen.was ∙ place ∙ ap (at_place i) c.after.ensures)) in
    q.1 ∙ ap Err q.2 ∙ sym stop ∙ c.loop-i.invariant ∙ judged_all p (map key_view ks) (viewed_some key_view ks (sym c.is_empty.ensures ∙ c.if-is_empty.false)) ∙ ap (λ (xs : List Key). valid_among p (placed_from 0 (map key_view xs))) c.as_slice-keys.ensures

pub loop-i-preserved : goal.loop-i-preserved
loop-i-preserved c =
    let ks = c.as_slice-keys.result.now in
    let p = c.args.keyset.now.primary_key_id in
    let i = c.loop-i.i-counter in
    let k = c.index-keys-i.result in
    let lt : i < length ks = c.loop-i-test.true in
    let more = gave i _ c.in_ok-seen.seen _ (let place : c.map_err-in-loop-i.result ≡ at_place i c.after.result = search rules in sym c.in_ok-seen.was ∙ place ∙ ap (at_place i) c.after.ensures) in
    ap (λ (s : Seen). judged p s (i + 1) (drop (i + 1) (map key_view ks))) more.0
    ∙ sym (judged_passed p c.loop-i.seen i (map key_view ks) (key_view k) (viewed_within key_view ks i lt) (viewed_at key_view ks i k (key_view k) lt c.index-keys-i.is)
    (let place : c.map_err.result ≡ at_place i c.validate_key.result = search rules in sym c.in_ok-map_err.was ∙ place ∙ ap (at_place i) c.validate_key.ensures) more.1)
    ∙ c.loop-i.invariant

pub returns : goal.returns
unfolding valid
returns c =
    let ks = c.as_slice-keys.result.now in
    let p = c.args.keyset.now.primary_key_id in
    c.conclude.ensures ∙ sym (judged_ended p c.loop-i.seen c.loop-i.i-counter (map key_view ks) (viewed_past key_view ks _ c.loop-i-test.false)) ∙ c.loop-i.invariant
    ∙ judged_all p (map key_view ks) (viewed_some key_view ks (sym c.is_empty.ensures ∙ c.if-is_empty.false)) ∙ ap (λ (xs : List Key). valid_among p (placed_from 0 (map key_view xs))) c.as_slice-keys.ensures
