use Rattle.keysets.proofs.CheckLaws.{checks_in_order}
use Rattle.keysets.proofs.claims.checks_go_in_order.Goals as goal

pub returns : goal.returns
returns c = checks_in_order
