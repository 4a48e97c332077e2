use Rattle.std.proofs.Common.{◌<◌, get_or, rules, arith}
use Rattle.std.proofs.Output.{has_written_append, has_written_of_eq}
use Rattle.hex.specs.Hex.{encode_with}
use Rattle.rows.proofs.Printed.{one_more}
use Rattle.rows.proofs.write_digits.Goals as goal

pub loop-b-init : goal.loop-b-init
unfolding encode_with
loop-b-init g c = search rules

pub loop-b-preserved : goal.loop-b-preserved
loop-b-preserved g c = λ plain.
    let row = c.args.row.now in
    let at = c.loop-b.b-index in
    let small : get_or row at 0 < 256 = let fits = c.type_inv.row at in omega arith in
    has_written_of_eq _ _ _ _ _ (one_more row at c.loop-b-test.true small) (has_written_append _ _ _ _ _ _ (c.loop-b.invariant plain) (search rules))
