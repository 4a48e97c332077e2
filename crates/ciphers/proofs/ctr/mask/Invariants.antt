use Rattle.std.proofs.Common.{◌≡◌, ◌*◌, ◌≤◌, ◌++◌, length, take, drop}
use Rattle.ciphers.specs.Fips197.{cipher}
use Rattle.ciphers.specs.Keys.{aes_key}
use Rattle.ciphers.specs.Rfc5297.{masked}
use Rattle.ciphers.proofs.ctr.mask.Given as goal

abbrev pub invariant-loop-j : goal.invariant-loop-j
invariant-loop-j l =
    (l.j-iterator.iter.size ≡ 16) × (16 * l.j-iterator.count ≤ length l.text) × (l.j-iterator.iter.rest.now ≡ drop (16 * l.j-iterator.count) l.text) ×
    (l.out ≡ masked (cipher (aes_key l.aes)) l.q (take (16 * l.j-iterator.count) l.text) ++ drop (16 * l.j-iterator.count) l.initial.out)
