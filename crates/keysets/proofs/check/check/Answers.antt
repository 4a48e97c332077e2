use Rattle.std.proofs.Common.{◌≡◌, ◌<◌, List, map, length, Err, sym, ap, ◌∙◌, rules}
use Rattle.std.proofs.lemmas.Result.{err_from_is_err_and}
use Rattle.encoding.specs.Views.{key_view}
use Rattle.encoding.specs.declared.records.Key.{Key}
use Rattle.keysets.specs.Answering.{at_place}
use Rattle.keysets.specs.Checks.{checked_key, each_key, checked}
use Rattle.keysets.proofs.Elements.{viewed_at, viewed_within, viewed_past}
use Rattle.keysets.proofs.EachKey.{each_passed, each_stopped, each_ended}
use Rattle.keysets.proofs.check.check.Goals as goal

pub returns-in_err-map_err : goal.returns-in_err-map_err
unfolding checked
returns-in_err-map_err c =
    let ks = c.as_slice-key-items.result.now in
    let i = c.loop-i.i-counter in
    let k = c.key-item.result in
    let lt : i < length ks = c.loop-i-test.true in
    let p = err_from_is_err_and c.from_residual.result c.from_residual.ensures.1 in
    let stop = each_stopped checked_key i (map key_view ks) (key_view k) _ (viewed_within key_view ks i lt) (viewed_at key_view ks i k (key_view k) lt c.key-item.is)
    (let place : c.map_err.result ≡ at_place i c.check_key.result = search rules in sym c.in_err-map_err.was ∙ place ∙ ap (at_place i) c.check_key.ensures) in
    p.1 ∙ ap Err p.2 ∙ sym stop ∙ c.loop-i.invariant ∙ ap (λ (xs : List Key). each_key checked_key 0 (map key_view xs)) c.as_slice-key-items.ensures

pub loop-i-preserved : goal.loop-i-preserved
loop-i-preserved c =
    let ks = c.as_slice-key-items.result.now in
    let i = c.loop-i.i-counter in
    let k = c.key-item.result in
    let lt : i < length ks = c.loop-i-test.true in
    sym (each_passed checked_key i (map key_view ks) (key_view k) (viewed_within key_view ks i lt) (viewed_at key_view ks i k (key_view k) lt c.key-item.is)
    (let place : c.map_err.result ≡ at_place i c.check_key.result = search rules in sym c.in_ok-map_err.was ∙ place ∙ ap (at_place i) c.check_key.ensures)) ∙ c.loop-i.invariant

pub returns : goal.returns
unfolding checked
returns c =
    let ks = c.as_slice-key-items.result.now in
    sym (each_ended checked_key c.loop-i.i-counter (map key_view ks) (viewed_past key_view ks _ c.loop-i-test.false)) ∙ c.loop-i.invariant
    ∙ ap (λ (xs : List Key). each_key checked_key 0 (map key_view xs)) c.as_slice-key-items.ensures
