use Rattle.std.proofs.Common.{◌≡◌, ◌-◌, map, length, take}
use Rattle.ciphers.specs.Bytes.{word_bytes}
use Rattle.ciphers.specs.Fips197.{state_of, expand, key_words}
use Rattle.ciphers.proofs.aes.schedule.expansion.Given as goal

abbrev pub invariant-loop-i : goal.invariant-loop-i
invariant-loop-i l =
    (length l.w ≡ 44) × (state_of l.w ≡ state_of l.initial.w) × (map word_bytes (take l.i l.w) ≡ expand (l.i - 4) (key_words (state_of l.initial.w)))
