use Rattle.std.proofs.Common.{map}
use Rattle.ciphers.specs.Bytes.{word_bytes}
use Rattle.ciphers.specs.Fips197.{state_of}
use Rattle.ciphers.specs.Keys.{aes_key}
use Rattle.ciphers.proofs.Expanding.{cipher_is}
use Rattle.ciphers.proofs.aes.Aes128.encrypt.Goals as goal

pub returns : goal.returns
unfolding aes_key
returns c =
    let ws = c.args.self.now.words in
    let is = cipher_is (state_of ws) c.args.block (map word_bytes ws) c.args.self.now.expanded in
    cc
