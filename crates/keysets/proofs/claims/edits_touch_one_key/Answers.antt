use Rattle.keysets.proofs.EditLaws.{touches_one_key}
use Rattle.keysets.proofs.claims.edits_touch_one_key.Goals as goal

pub returns : goal.returns
returns c = touches_one_key
