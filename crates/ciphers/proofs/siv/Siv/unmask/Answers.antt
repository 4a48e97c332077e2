use Rattle.std.proofs.Common.{length-drop}
use Rattle.std.proofs.lemmas.List.{take_rest}
use Rattle.ciphers.specs.Fips197.{cipher}
use Rattle.ciphers.specs.Keys.{aes_key}
use Rattle.ciphers.proofs.Reopening.{plain_of_is}
use Rattle.ciphers.proofs.siv.Siv.unmask.Goals as goal

pub returns : goal.returns
returns c =
    let z = c.args.sealed.now in
    let rest = take_rest z 16 in
    let len = length-drop 16 z in
    let plain = plain_of_is (cipher (aes_key c.args.self.now.ctr)) z in
    cc
