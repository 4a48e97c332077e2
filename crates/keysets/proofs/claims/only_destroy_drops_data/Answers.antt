use Rattle.keysets.proofs.EditLaws.{only_destroy_drops_data}
use Rattle.keysets.proofs.claims.only_destroy_drops_data.Goals as goal

pub returns : goal.returns
returns c = only_destroy_drops_data
