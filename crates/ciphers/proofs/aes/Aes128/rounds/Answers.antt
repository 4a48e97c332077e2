use Rattle.std.proofs.Common.{◌≡◌, ◌+◌, ◌-◌, map, sym, arith}
use Rattle.ciphers.specs.Bytes.{word_bytes}
use Rattle.ciphers.specs.Fips197.{state_of}
use Rattle.ciphers.proofs.Expanding.{after_none, after_more, cipher_by_is}
use Rattle.ciphers.proofs.aes.Aes128.rounds.Goals as goal

pub loop-i-init : goal.loop-i-init
loop-i-init c = sym (after_none (map word_bytes c.args.self.now.words) (state_of c.add_round_key-s.result))

pub loop-i-preserved : goal.loop-i-preserved
loop-i-preserved c =
    let i = c.loop-i.i in
    let n = i - 1 in
    let here : n + 1 ≡ i = omega arith in
    let next : i + 1 - 1 ≡ n + 1 = omega arith in
    let more = after_more (map word_bytes c.args.self.now.words) (state_of c.add_round_key-s.result) n in
    let kept = c.loop-i.invariant in
    let round = c.full_round-next.ensures in
    let key = c.round_key-in-loop-i.ensures in
    cc

pub returns : goal.returns
returns c =
    let all = cipher_by_is (map word_bytes c.args.self.now.words) (state_of c.args.text) in
    let nine : c.loop-i.i - 1 ≡ 9 = omega arith in
    cc
