use Rattle.std.proofs.Common.{◌≡◌, ◌*◌, ◌≤◌, take, drop}
use Rattle.ciphers.specs.Fips197.{cipher}
use Rattle.ciphers.specs.Keys.{aes_key}
use Rattle.ciphers.specs.Rfc5297.{masked}
use Rattle.ciphers.specs.Tagging.{mac_key, progress, begun, absorbed}
use Rattle.ciphers.proofs.siv.Siv.long_tag.Given as goal

abbrev pub invariant-loop-j : goal.invariant-loop-j
invariant-loop-j l =
    (l.j-iterator.iter.size ≡ 16) × (l.j-iterator.count ≤ l.whole) × (l.j-iterator.iter.rest.now ≡ drop (16 * l.j-iterator.count) (take (16 * l.whole) l.text)) ×
    (progress l.running ≡ absorbed (begun (mac_key l.self.mac)) (masked (cipher (aes_key l.self.ctr)) l.q (take (16 * l.j-iterator.count) l.text)))
