use Rattle.std.proofs.Common.{sym, ap, ◌∙◌}
use Rattle.std.specs.Option.{option_map}
use Rattle.encoding.specs.Lists.{item}
use Rattle.encoding.specs.Meanings.{KeysetMeaning}
use Rattle.encoding.specs.Views.{key_view}
use Rattle.keysets.proofs.Elements.{item_viewed}
use Rattle.keysets.proofs.manager.Manager.key_at.Goals as goal

pub returns : goal.returns
returns c = ap (option_map key_view) c.get.ensures ∙ sym (item_viewed key_view _ c.args.at) ∙ ap (λ (s : KeysetMeaning). item s.keys c.args.at) c.self.view_is
