use Rattle.std.proofs.Common.{length, sym, ap, ◌∙◌, arith}
use Rattle.std.proofs.lemmas.List.{length-map}
use Rattle.std.proofs.lemmas.Bool.{cond-true, cond-false}
use Rattle.encoding.specs.Lists.{list}
use Rattle.encoding.specs.Meanings.{KeysetMeaning}
use Rattle.encoding.specs.Views.{key_view}
use Rattle.keysets.specs.Adding.{with_key}
use Rattle.keysets.proofs.Appending.{pushed_there, appended}
use Rattle.keysets.proofs.manager.Manager.append.Goals as goal

pub returns-then-as_primary : goal.returns-then-as_primary
returns-then-as_primary c =
    let old = list c.self.inside.ks.key in
    let len = length-map old key_view in
    let same = ap (λ (s : KeysetMeaning). length s.keys) c.self.view_is in
    let at = pushed_there c.push.result old (list c.push.new.self) c.args.key _ _ (omega arith) c.push.ensures in
    appended c.args.as_primary c.args.key old (list c.push.new.self) c.self.inside.ks.primary_key_id _ at
    (sym (cond-true c.args.as_primary _ _ c.if-as_primary.true)) ∙ ap (with_key c.args.as_primary (key_view c.args.key)) c.self.view_is

pub returns-else-as_primary : goal.returns-else-as_primary
returns-else-as_primary c =
    let old = list c.self.inside.ks.key in
    let len = length-map old key_view in
    let same = ap (λ (s : KeysetMeaning). length s.keys) c.self.view_is in
    let at = pushed_there c.push.result old (list c.push.new.self) c.args.key _ _ (omega arith) c.push.ensures in
    appended c.args.as_primary c.args.key old (list c.push.new.self) c.self.inside.ks.primary_key_id _ at
    (sym (cond-false c.args.as_primary _ _ c.if-as_primary.false)) ∙ ap (with_key c.args.as_primary (key_view c.args.key)) c.self.view_is
