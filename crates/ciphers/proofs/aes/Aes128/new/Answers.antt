use Rattle.ciphers.specs.Keys.{aes_key}
use Rattle.ciphers.proofs.aes.Aes128.new.Goals as goal

pub returns : goal.returns
unfolding aes_key
returns c = c.expansion.ensures.key
