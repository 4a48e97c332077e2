use Rattle.std.proofs.Common.{refl}
use Rattle.ciphers.specs.Tagging.{progress, begun}
use Rattle.ciphers.proofs.cmac.Cmac.start.Goals as goal

pub returns : goal.returns
unfolding progress begun
returns c = refl
