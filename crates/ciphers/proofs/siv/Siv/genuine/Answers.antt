use Rattle.std.proofs.Common.{◌≤◌, length, arith}
use Rattle.ciphers.specs.Fips197.{cipher}
use Rattle.ciphers.specs.Keys.{aes_key}
use Rattle.ciphers.specs.Tagging.{mac_key}
use Rattle.ciphers.proofs.Reopening.{genuine-short, genuine_long}
use Rattle.ciphers.proofs.siv.Siv.genuine.Goals as goal

pub returns-in_err-v : goal.returns-in_err-v
returns-in_err-v c =
    let A = cipher (mac_key c.args.self.now.mac) in
    let E = cipher (aes_key c.args.self.now.ctr) in
    rw c.from_residual.ensures (genuine-short A E c.args.ad.now c.args.sealed.now c.in_err-v.ensures.cases)

pub returns-then-eq : goal.returns-then-eq
returns-then-eq c =
    let A = cipher (mac_key c.args.self.now.mac) in
    let E = cipher (aes_key c.args.self.now.ctr) in
    let sealed = c.args.sealed.now in
    let long : 16 ≤ length sealed = omega (arith, c.in_ok-v.ensures.cases.2) in
    let is = genuine_long A E c.args.ad.now sealed long in
    let v = c.in_ok-v.ensures.cases.0 in
    let text = c.in_ok-v.ensures.cases.1 in
    (cc, long, text)

pub returns-else-eq : goal.returns-else-eq
returns-else-eq c =
    let A = cipher (mac_key c.args.self.now.mac) in
    let E = cipher (aes_key c.args.self.now.ctr) in
    let sealed = c.args.sealed.now in
    let long : 16 ≤ length sealed = omega (arith, c.in_ok-v.ensures.cases.2) in
    let is = genuine_long A E c.args.ad.now sealed long in
    let v = c.in_ok-v.ensures.cases.0 in
    let text = c.in_ok-v.ensures.cases.1 in
    cc
