use Rattle.std.proofs.Common.{◌≡◌, List, ◌++◌, length, take, drop, replicate, ap, ◌∙◌}
use Rattle.std.proofs.lemmas.List.{take_at, drop_at, drop-replicate}
use Rattle.encoding.proofs.bounded.Bounded.from_slice.Goals as goal

copied : {T : Type 0} (xs ys rest : List T) → ys ≡ xs → (take (length xs) (ys ++ rest) ≡ xs) × (drop (length xs) (ys ++ rest) ≡ rest)
copied xs ys rest e = (take_at ys rest (length xs) (ap length e) ∙ e, drop_at ys rest (length xs) (ap length e))

pub returns : goal.returns
returns g c =
    let h = copied c.args.from.now c.copy_from_slice.new.self (drop (length c.args.from.now) (replicate g.row.N c.args.blank)) c.copy_from_slice.ensures.after in
    (h.0, h.1 ∙ drop-replicate (length c.args.from.now) g.row.N c.args.blank)
