use Rattle.std.proofs.Common.{ℕ, List, length, sym, refl, ap, ◌∙◌, arith}
use Rattle.ciphers.specs.Bytes.{xors}
use Rattle.ciphers.specs.Fips197.{cipher}
use Rattle.ciphers.specs.Keys.{aes_key}
use Rattle.ciphers.specs.Rfc4493.{cmac, dbl, padded}
use Rattle.ciphers.specs.Rfc5297.{masked}
use Rattle.ciphers.specs.Tagging.{mac_key}
use Rattle.ciphers.proofs.Ends.{lastly-short, lastly_long}
use Rattle.ciphers.proofs.Masking.{length-masked, masked-front}
use Rattle.ciphers.proofs.siv.Siv.masked_tag.Goals as goal

pub returns-then-n-ge16 : goal.returns-then-n-ge16
returns-then-n-ge16 c =
    let s = c.args.self.now in
    let E = cipher (aes_key s.ctr) in
    let text = c.args.text.now in
    let len = length-masked E c.args.q 0 text in
    c.long_tag.ensures ∙ sym (lastly_long (cipher (mac_key s.mac)) c.args.d (masked E c.args.q text) (omega arith))

pub returns : goal.returns
returns c =
    let A = cipher (mac_key c.args.self.now.mac) in
    let E = cipher (aes_key c.args.self.now.ctr) in
    let text = c.args.text.now in
    let n = length text in
    let m = masked E c.args.q text in
    let len = length-masked E c.args.q 0 text in
    let front = masked-front E c.args.q n text c.mask.new.out _ c.mask.ensures refl in
    c.short_tag.ensures ∙
    (ap (λ (t : List ℕ). cmac A (xors (dbl c.args.d) (padded t))) front ∙ sym (lastly-short A c.args.d m (omega arith)))
