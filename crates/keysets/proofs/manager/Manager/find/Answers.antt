use Rattle.std.proofs.Common.{◌<◌, List, map, length, sym, ap, ◌∙◌}
use Rattle.encoding.specs.Meanings.{KeysetMeaning}
use Rattle.encoding.specs.Views.{key_view}
use Rattle.encoding.specs.declared.records.Key.{Key}
use Rattle.keysets.specs.Edits.{blank_key, position_of, key_at}
use Rattle.keysets.proofs.Elements.{viewed_at, viewed_within, viewed_past}
use Rattle.keysets.proofs.Positions.{position-found, position_later, position_past}
use Rattle.keysets.proofs.manager.Manager.find.Goals as goal

pub returns-then-key-id : goal.returns-then-key-id
returns-then-key-id c =
    let ks = c.as_slice-keys.result.now in
    let i = c.loop-i.i in
    let k = c.index-keys-i.result in
    let lt : i < length ks = c.loop-i-test.true in
    let found = position-found c.args.id i (map key_view ks) (key_view k) (viewed_within key_view ks i lt) (viewed_at key_view ks i k (key_view k) lt c.index-keys-i.is) c.if-key-id.true in (
      ap (λ (s : KeysetMeaning). position_of c.args.id s.keys) (sym c.self.view_is) ∙ ap (λ (xs : List Key). position_of c.args.id (map key_view xs)) (sym c.as_slice-keys.ensures) ∙ sym c.loop-i.invariant ∙ found,
      sym (viewed_at key_view ks i k blank_key lt c.index-keys-i.is) ∙ ap (λ (xs : List Key). key_at (map key_view xs) i) c.as_slice-keys.ensures ∙ ap (λ (s : KeysetMeaning). key_at s.keys i) c.self.view_is,
    )

pub loop-i-preserved : goal.loop-i-preserved
loop-i-preserved c =
    let ks = c.as_slice-keys.result.now in
    let k = c.index-keys-i.result in
    let lt : c.loop-i.i < length ks = c.loop-i-test.true in
    sym (position_later c.args.id c.loop-i.i (map key_view ks) (key_view k) (viewed_within key_view ks _ lt) (viewed_at key_view ks _ k (key_view k) lt c.index-keys-i.is) c.if-key-id.false) ∙ c.loop-i.invariant

pub returns : goal.returns
returns c =
    let ks = c.as_slice-keys.result.now in (
      ap (λ (s : KeysetMeaning). position_of c.args.id s.keys) (sym c.self.view_is) ∙ ap (λ (xs : List Key). position_of c.args.id (map key_view xs)) (sym c.as_slice-keys.ensures) ∙ sym c.loop-i.invariant
          ∙ position_past c.args.id c.loop-i.i (map key_view ks) (viewed_past key_view ks _ c.loop-i-test.false),
      c.new.ensures,
    )
