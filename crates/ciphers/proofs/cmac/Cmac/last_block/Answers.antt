use Rattle.std.proofs.Common.{◌≡◌, ◌<◌, length, take, arith, rules}
use Rattle.std.proofs.lemmas.List.{take_all}
use Rattle.ciphers.specs.Fips197.{cipher}
use Rattle.ciphers.specs.Tagging.{mac_key}
use Rattle.ciphers.proofs.LastBlock.{last_whole, last_short}
use Rattle.ciphers.proofs.cmac.Cmac.last_block.Goals as goal

pub returns-in-Some : goal.returns-in-Some
returns-in-Some c =
    let rest = c.args.rest.now in
    let whole : length rest ≡ 16 = search rules in
    let all : take 16 rest ≡ rest = take_all 16 rest (omega arith) in
    let block : c.in-Some.block.now ≡ take 16 rest = c.in-Some.ensures.cases.same in
    let last = last_whole (cipher (mac_key c.args.self.now)) rest whole in
    let k1 = c.args.self.now.subkey in
    cc

pub returns-in-None : goal.returns-in-None
returns-in-None c =
    let rest = c.args.rest.now in
    let short : length rest < 16 = search rules in
    let last = last_short (cipher (mac_key c.args.self.now)) rest short in
    let k1 = c.args.self.now.subkey in
    cc
