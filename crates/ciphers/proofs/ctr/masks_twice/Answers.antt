use Rattle.ciphers.proofs.Masking.{masks_twice}
use Rattle.ciphers.proofs.ctr.masks_twice.Goals as goal

pub returns : goal.returns
returns c = masks_twice
