use Rattle.keysets.proofs.Undoing.{enabling_undoes_disabling}
use Rattle.keysets.proofs.claims.enabling_undoes_disabling.Goals as goal

pub returns : goal.returns
returns c = enabling_undoes_disabling
