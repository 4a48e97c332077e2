use Rattle.keysets.proofs.EditLaws.{refused_changes_nothing}
use Rattle.keysets.proofs.claims.refused_edits_change_nothing.Goals as goal

pub returns : goal.returns
returns c = refused_changes_nothing
