use Rattle.std.proofs.Common.{rules}
use Rattle.std.proofs.lemmas.List.{drop_more, drop_all}
use Rattle.keysets.proofs.registry.Registry.get_key_manager.Goals as goal

pub loop-place-preserved : goal.loop-place-preserved
loop-place-preserved g c = search (rules, drop_more)

pub returns-then-does_support : goal.returns-then-does_support
returns-then-does_support g c = search (rules, drop_more)

pub returns : goal.returns
returns g c = search (rules, drop_all)
