use Rattle.ciphers.specs.Rfc5297.{counter}
use Rattle.ciphers.proofs.ctr.stream_block.Goals as goal

pub returns : goal.returns
unfolding counter
returns c = cc
