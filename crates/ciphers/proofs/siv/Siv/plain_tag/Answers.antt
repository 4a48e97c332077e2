use Rattle.std.proofs.Common.{sym, ap, ◌∙◌}
use Rattle.ciphers.specs.Fips197.{cipher}
use Rattle.ciphers.specs.Rfc5297.{xor_end}
use Rattle.ciphers.specs.Tagging.{Progress, mac_key, absorbed, tag_of}
use Rattle.ciphers.proofs.Ends.{lastly-short, lastly_long}
use Rattle.ciphers.proofs.InPieces.{tag_is}
use Rattle.ciphers.proofs.siv.Siv.plain_tag.Goals as goal

pub returns-then-plain-lt16 : goal.returns-then-plain-lt16
returns-then-plain-lt16 c = c.short_tag.ensures ∙ sym (lastly-short (cipher (mac_key c.args.self.now.mac)) c.args.d c.args.plain.now c.if-plain-lt16.true)

pub returns : goal.returns
returns c =
    let key = mac_key c.args.self.now.mac in
    let plain = c.args.plain.now in
    c.end_tag.ensures ∙
    (ap (λ (p : Progress). tag_of (absorbed p (xor_end plain c.args.d))) c.start.ensures ∙
    (tag_is key (xor_end plain c.args.d) ∙ sym (lastly_long (cipher key) c.args.d plain c.if-plain-lt16.false)))
