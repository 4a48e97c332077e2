use Rattle.std.proofs.Common.{refl, inl, arith}
use Rattle.encoding.specs.Varints.{base128-size, varint-size, span}
use Rattle.encoding.proofs.varint.varint_len.Goals as goal

pub returns-in-0-to-127 : goal.returns-in-0-to-127
unfolding span
returns-in-0-to-127 c = base128-size 0 9 c.args.value (inl refl) (omega arith) (omega arith)

pub returns-in-0-to-16383 : goal.returns-in-0-to-16383
unfolding span
returns-in-0-to-16383 c = varint-size 1 c.args.value 128 16384 refl refl (omega arith) (omega arith) (omega arith)

pub returns-in-0-to-2097151 : goal.returns-in-0-to-2097151
unfolding span
returns-in-0-to-2097151 c = varint-size 2 c.args.value 16384 2097152 refl refl (omega arith) (omega arith) (omega arith)

pub returns-in-0-to-268435455 : goal.returns-in-0-to-268435455
unfolding span
returns-in-0-to-268435455 c = varint-size 3 c.args.value 2097152 268435456 refl refl (omega arith) (omega arith) (omega arith)

pub returns-in-0-to-34359738367 : goal.returns-in-0-to-34359738367
unfolding span
returns-in-0-to-34359738367 c = varint-size 4 c.args.value 268435456 34359738368 refl refl (omega arith) (omega arith) (omega arith)

pub returns-in-0-to-4398046511103 : goal.returns-in-0-to-4398046511103
unfolding span
returns-in-0-to-4398046511103 c = varint-size 5 c.args.value 34359738368 4398046511104 refl refl (omega arith) (omega arith) (omega arith)

pub returns-in-0-to-562949953421311 : goal.returns-in-0-to-562949953421311
unfolding span
returns-in-0-to-562949953421311 c = varint-size 6 c.args.value 4398046511104 562949953421312 refl refl (omega arith) (omega arith) (omega arith)

pub returns-in-0-to-72057594037927935 : goal.returns-in-0-to-72057594037927935
unfolding span
returns-in-0-to-72057594037927935 c = varint-size 7 c.args.value 562949953421312 72057594037927936 refl refl (omega arith) (omega arith) (omega arith)

pub returns-in-0-to-9223372036854775807 : goal.returns-in-0-to-9223372036854775807
unfolding span
returns-in-0-to-9223372036854775807 c = varint-size 8 c.args.value 72057594037927936 9223372036854775808 refl refl (omega arith) (omega arith) (omega arith)

pub returns-in_default : goal.returns-in_default
unfolding span
returns-in_default c = varint-size 9 c.args.value 9223372036854775808 1180591620717411303424 refl refl (omega arith) (omega arith) (omega arith)
