use Rattle.std.proofs.Common.{◌-◌, ◌^◌, min, List, length, take, refl, ap, ◌∙◌, arith}
use Rattle.std.proofs.lemmas.List.{take_all, length-append}
use Rattle.encoding.specs.Wire.{encode, encode_field, bytes}
use Rattle.encoding.specs.Members.{each}
use Rattle.encoding.specs.Parts.{each_more}
use Rattle.encoding.proofs.member.BoundedMember.size.Goals as goal

pub loop-one-init : goal.loop-one-init
unfolding encode
loop-one-init g c = λ k l. refl

pub loop-one-preserved : goal.loop-one-preserved
loop-one-preserved g c = λ k l.
    let more = each_more g.R.Message.fields k c.as_slice-one-items.result.now c.loop-one.one-index c.one-item.result c.loop-one-test.true c.one-item.is in
    omega (
      arith,
      c.saturating_add-total.ensures,
      c.loop-one.invariant k l,
      c.record_len.ensures k l,
      ap length more,
      length-append (encode (each g.R.Message.fields k (take c.loop-one.one-index c.as_slice-one-items.result.now))) (encode_field (bytes k (encode (g.R.Message.fields c.one-item.result)))),
    )

pub returns : goal.returns
returns g c = λ k l.
    c.loop-one.invariant k l ∙ ap (λ (xs : List g.row.R.Denot). min (length (encode (each g.R.Message.fields k xs))) (2 ^ 64 - 1))
    (take_all c.loop-one.one-index c.as_slice-one-items.result.now c.loop-one-test.false ∙ c.as_slice-one-items.ensures)
