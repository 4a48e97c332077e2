use Rattle.std.proofs.Common.{length, ap, arith}
use Rattle.encoding.specs.Parts.{number-none, number_size}
use Rattle.encoding.specs.Sorts.{ten_bytes}
use Rattle.encoding.proofs.sizes.unsigned_len.Goals as goal

pub returns-then-value-eq0 : goal.returns-then-value-eq0
returns-then-value-eq0 c = λ k l. omega (arith, ap length (number-none k c.args.value c.if-value-eq0.true))

pub overflow_add-result : goal.overflow_add-result
overflow_add-result c = omega (arith, ten_bytes c.args.value (omega arith), c.varint_len.ensures)

pub returns : goal.returns
returns c = λ k l. omega (arith, number_size k c.args.value l c.if-value-eq0.false, ten_bytes c.args.value (omega arith), c.varint_len.ensures)
