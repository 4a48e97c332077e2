use Rattle.std.proofs.Common.{length, sym}
use Rattle.std.proofs.lemmas.Bool.{le-ltb}
use Rattle.ciphers.specs.Fips197.{cipher}
use Rattle.ciphers.specs.Keys.{aes_key}
use Rattle.ciphers.specs.Rfc5297.{masked}
use Rattle.ciphers.proofs.Masking.{length-masked}
use Rattle.ciphers.proofs.Seals.{sealed-answer, sealed-output}
use Rattle.ciphers.proofs.ctr.apply.Goals as goal

pub returns : goal.returns
returns c =
    let E = cipher (aes_key c.args.aes.now) in
    let text = c.args.text.now in
    let out = c.args.out.now in
    let m = masked E c.args.counter text in
    let len = sym (length-masked E c.args.counter 0 text) in
    let room = le-ltb (length out) (length text) c.if-out-text.false in
    record {
      answer = sealed-answer m out c.mask.new.out (length text) len c.mask.ensures _ room;
      output = sealed-output m out c.mask.new.out (length text) len c.mask.ensures _ room;
    }
