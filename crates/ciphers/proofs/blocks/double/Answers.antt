use Rattle.ciphers.specs.Rfc4493.{dbl}
use Rattle.ciphers.proofs.blocks.double.Goals as goal

pub returns : goal.returns
unfolding dbl
returns c = cc
