use Rattle.std.proofs.Common.{rules}
use Rattle.ciphers.proofs.BlockLaws.{xors-numbers}
use Rattle.ciphers.proofs.blocks.xor.Goals as goal

pub returns : goal.returns
returns c =
    let sum = xors-numbers c.args.a c.args.b (search rules) (search rules) (search rules) (search rules) in
    let left = c.number_of.ensures in
    let right = c.number_of-2.ensures in
    let all = c.block_of.ensures in
    cc
