use Rattle.ciphers.specs.Drawn.{cipher_word}
use Rattle.ciphers.proofs.draws.word.Goals as goal

pub returns : goal.returns
unfolding cipher_word
returns c = cc
