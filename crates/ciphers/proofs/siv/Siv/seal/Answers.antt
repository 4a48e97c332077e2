use Rattle.std.proofs.Common.{◌≡◌, ℕ, ◌+◌, List, ◌++◌, length, drop, ap, ◌∙◌, arith, rules}
use Rattle.ciphers.specs.Fips197.{cipher}
use Rattle.ciphers.specs.Keys.{aes_key}
use Rattle.ciphers.specs.Rfc5297.{lastly}
use Rattle.ciphers.specs.Tagging.{mac_key}
use Rattle.ciphers.proofs.Reopening.{sealed_is}
use Rattle.ciphers.proofs.Seals.{seal_written}
use Rattle.ciphers.proofs.siv.Siv.seal.Goals as goal

pub returns : goal.returns
returns c =
    let s = c.args.self.now in
    let A = cipher (mac_key s.mac) in
    let E = cipher (aes_key s.ctr) in
    let plain = c.args.plain.now in
    let out = c.args.out.now in
    let v = c.plain_tag-v.result in
    let whole : length v ≡ 16 = search rules in
    let tag = c.plain_tag-v.ensures ∙ ap (λ (d : List ℕ). lastly A d plain) c.gather-d.ensures in
    seal_written E c.clear.result v c.copy_from_slice.new.self out plain c.mask.new.out c.copy_from_slice.ensures.after whole (omega arith) c.mask.ensures ∙
    ap (λ (z : List ℕ). z ++ drop (16 + length plain) out) (sealed_is A E c.args.ad.now plain v c.clear.result tag c.clear.ensures)
