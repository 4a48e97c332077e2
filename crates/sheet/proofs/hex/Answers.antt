use Rattle.std.proofs.Common.{◌≡◌, ℕ, List, IfOk, string_bytes, subst, arith}
use Rattle.sheet.specs.Hex.{Bytes}
use Rattle.sheet.proofs.Shown.{encoded}
use Rattle.sheet.proofs.hex.Goals as goal

pub returns : goal.returns
returns c =
    let small : Bytes c.args.bytes.now = λ k. let h = c.type_inv.bytes k in omega arith in
    subst (λ (l : List ℕ). IfOk c.encode.result (λ t. string_bytes t ≡ l)) (encoded c.args.bytes.now small) c.encode.ensures
