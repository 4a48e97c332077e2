use Rattle.std.proofs.Common.{◌≡◌, length, arith, rules}
use Rattle.std.proofs.lemmas.List.{drop_all}
use Rattle.ciphers.specs.Tagging.{progress}
use Rattle.ciphers.proofs.InPieces.{absorbed-none}
use Rattle.ciphers.proofs.cmac.Running.absorb.Goals as goal

pub returns : goal.returns
returns c =
    let rest = c.loop-rest.rest.now in
    let zero : length rest ≡ 0 = search rules in
    let end = drop_all 0 rest (omega arith) in
    let none = absorbed-none (progress c.loop-rest.self) in
    let kept = c.loop-rest.invariant in
    cc
