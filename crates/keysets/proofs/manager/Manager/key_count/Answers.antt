use Rattle.std.proofs.Common.{length, sym, ap, ◌∙◌}
use Rattle.std.proofs.lemmas.List.{length-map}
use Rattle.encoding.specs.Lists.{list}
use Rattle.encoding.specs.Meanings.{KeysetMeaning}
use Rattle.encoding.specs.Views.{key_view}
use Rattle.keysets.proofs.manager.Manager.key_count.Goals as goal

pub returns : goal.returns
returns c = c.len.ensures ∙ sym (length-map (list c.self.inside.ks.key) key_view) ∙ ap (λ (s : KeysetMeaning). length s.keys) c.self.view_is
