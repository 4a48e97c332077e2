use Rattle.std.proofs.Common.{◌≡◌, ap, ◌∙◌}
use Rattle.ciphers.specs.Rfc4493.{finish}
use Rattle.ciphers.specs.Tagging.{progress, tag_of}
use Rattle.ciphers.proofs.InPieces.{tag_is}
use Rattle.ciphers.proofs.cmac.Running.finish.Goals as goal

value : (c : goal.After-encrypt) → c.encrypt.result ≡ tag_of (progress c.args.self.now)
unfolding progress tag_of finish
value c = cc

pub returns : goal.returns
returns c = record { value = value c; tag = λ key m e. value c ∙ (ap tag_of e ∙ tag_is key m) }
