use Rattle.std.proofs.Common.{ap, ◌∙◌, rules}
use Rattle.ciphers.specs.Rfc4493.{subkey1, dbl}
use Rattle.ciphers.proofs.cmac.Cmac.new.Goals as goal

pub invariant_of-result : goal.invariant_of-result
unfolding subkey1
invariant_of-result c = record { whole = search rules; subkey = c.double-k1.ensures ∙ ap dbl c.encrypt.ensures }
