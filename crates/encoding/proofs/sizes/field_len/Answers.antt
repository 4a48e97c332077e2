use Rattle.std.proofs.Common.{arith}
use Rattle.encoding.specs.Parts.{bytes-size, key-size}
use Rattle.encoding.specs.Sorts.{ten_bytes}
use Rattle.encoding.proofs.sizes.field_len.Goals as goal

pub returns-then-len-lt128 : goal.returns-then-len-lt128
returns-then-len-lt128 c = λ k b l e. omega (arith, bytes-size k c.args.len b l e, key-size c.args.len (omega arith))

pub overflow_add-varint_len : goal.overflow_add-varint_len
overflow_add-varint_len c = omega (arith, ten_bytes c.args.len (omega arith), c.varint_len.ensures)

pub returns : goal.returns
returns c = λ k b l e. omega (arith, bytes-size k c.args.len b l e, c.varint_len.ensures, c.saturating_add.ensures)
