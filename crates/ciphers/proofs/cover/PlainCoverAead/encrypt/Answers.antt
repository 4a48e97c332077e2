use Rattle.std.proofs.Common.{◌≡◌, ◌+◌, ◌≤◌, false, length, arith, rules}
use Rattle.ciphers.specs.Aeads.{out_of_bounds}
use Rattle.ciphers.specs.Covers.{covered, uncovered}
use Rattle.ciphers.proofs.Seals.{sealed-encrypted, sealed-answer, sealed-output}
use Rattle.ciphers.proofs.Uncovering.{covered_opens}
use Rattle.ciphers.proofs.cover.PlainCoverAead.encrypt.Goals as goal

pub returns : goal.returns
returns c =
    let plain = c.args.plaintext.now in
    let text = c.args.additional_data.now in
    let out = c.args.out.now in
    let fits : out_of_bounds 4 (length plain) (length text) (length out) ≡ false = search rules in
    let short : length text ≤ 256 = search rules in
    let sealed = covered text plain in
    let n : 4 + length plain ≡ length sealed = omega arith in
    record {
      sealed = sealed-encrypted sealed out c.cover.new.out (4 + length plain) n c.cover.ensures uncovered 4 plain text fits (omega arith) (covered_opens text plain short);
      answer = sealed-answer sealed out c.cover.new.out (4 + length plain) n c.cover.ensures _ fits;
      output = sealed-output sealed out c.cover.new.out (4 + length plain) n c.cover.ensures _ fits;
    }
