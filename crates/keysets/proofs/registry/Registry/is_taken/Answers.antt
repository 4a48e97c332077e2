use Rattle.std.proofs.Common.{rules}
use Rattle.keysets.proofs.Banks.{url_at_is}
use Rattle.keysets.proofs.registry.Registry.is_taken.Goals as goal

pub returns : goal.returns
returns g c = search (rules, url_at_is)
