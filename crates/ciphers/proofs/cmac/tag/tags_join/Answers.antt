use Rattle.ciphers.proofs.InPieces.{tags_join}
use Rattle.ciphers.proofs.cmac.tag.tags_join.Goals as goal

pub returns : goal.returns
returns c = tags_join
