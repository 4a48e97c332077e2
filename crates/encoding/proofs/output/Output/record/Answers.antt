use Rattle.std.proofs.Common.{◌≡◌, ℕ, ◌+◌, ◌*◌, List, ◌++◌, length, sym, ap, ◌∙◌, arith}
use Rattle.encoding.specs.Wire.{varint, bytes, encode_field, encode}
use Rattle.encoding.specs.Layings.{then, laid_as}
use Rattle.encoding.specs.Parts.{bytes-bytes}
use Rattle.encoding.proofs.output.Output.record.Goals as goal

whole : (k n : ℕ) (b : List ℕ) → n ≡ length b → (varint (8 * k + 2) ++ varint n) ++ b ≡ encode_field (bytes k b)
whole k n b e = ap (λ (n : ℕ). (varint (8 * k + 2) ++ varint n) ++ b) e ∙ sym (bytes-bytes k b)

pub returns : goal.returns
returns g c =
    let b = encode (g.R.Message.fields c.args.inner.now) in
    laid_as _ _ _ _ (whole c.args.field c.size.result b c.size.ensures) (then _ _ _ _ _ (omega (arith, c.well_formed)) c.head.ensures c.put.ensures)
