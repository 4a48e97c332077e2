use Rattle.std.proofs.Common.{◌≡◌, ◌-◌, map}
use Rattle.ciphers.specs.Bytes.{word_bytes}
use Rattle.ciphers.specs.Fips197.{state_of, after}
use Rattle.ciphers.proofs.aes.Aes128.rounds.Given as goal

abbrev pub invariant-loop-i : goal.invariant-loop-i
invariant-loop-i l = state_of l.s ≡ after (map word_bytes l.self.words) (state_of l.initial.s) (l.i - 1)
