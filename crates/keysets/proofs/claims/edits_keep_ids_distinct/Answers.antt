use Rattle.keysets.proofs.EditLaws.{ids_stay_distinct}
use Rattle.keysets.proofs.claims.edits_keep_ids_distinct.Goals as goal

pub returns : goal.returns
returns c = ids_stay_distinct
