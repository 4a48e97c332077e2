use Rattle.keysets.proofs.ValidLaws.{accepts_the_valid}
use Rattle.keysets.proofs.claims.validation_accepts_the_valid.Goals as goal

pub returns : goal.returns
returns c = accepts_the_valid
