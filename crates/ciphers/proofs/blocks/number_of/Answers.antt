use Rattle.std.proofs.Common.{◌≡◌, length, arith, rules}
use Rattle.ciphers.proofs.BlockLaws.{number_is}
use Rattle.ciphers.proofs.blocks.number_of.Goals as goal

pub returns : goal.returns
returns c =
    let whole : length c.args.block ≡ 16 = search rules in
    omega (arith, number_is c.args.block whole)
