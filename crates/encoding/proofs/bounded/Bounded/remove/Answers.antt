use Rattle.std.proofs.Common.{◌-◌, ◌<◌, sym, ap, ◌∙◌, take, slice_set, arith, rules}
use Rattle.std.proofs.lemmas.Bool.{lt-ltb}
use Rattle.encoding.specs.Lists.{list}
use Rattle.encoding.specs.ListsLemmas.{item_within, item_past, list_length, without-past, removed}
use Rattle.encoding.proofs.bounded.Bounded.remove.Given as given
use Rattle.encoding.proofs.bounded.Bounded.remove.Goals as goal
use Rattle.encoding.proofs.bounded.Bounded.remove.Goals.{In_ok-found}

pub returns-in_err-found-clause-items : goal.returns-in_err-found-clause-items
returns-in_err-found-clause-items g c = without-past _ _ (item_past (list c.args.self.now) c.args.at c.in_err-found.ensures)

within : (g : given.Over) (c : In_ok-found g) → c.args.at < c.args.self.now.len
within g c = item_within c.args.self.now c.args.at c.in_ok-found.found c.in_ok-found.ensures

pub overflow_add-at : goal.overflow_add-at
overflow_add-at g c = let l = within g (goal.at.overflow_add-at g c).In_ok-found in let f = c.args.self.now.fits in let n = g.N.fits in search rules

pub copy_within-requires-clause-start_le_end : goal.copy_within-requires-clause-start_le_end
copy_within-requires-clause-start_le_end g c = omega (arith, within g (goal.at.copy_within-requires-clause-start_le_end g c).In_ok-found)

pub copy_within-requires-clause-dest_in_bounds : goal.copy_within-requires-clause-dest_in_bounds
copy_within-requires-clause-dest_in_bounds g c = omega (arith, within g (goal.at.copy_within-requires-clause-dest_in_bounds g c).In_ok-found, c.args.self.now.fits, c.args.self.now.full)

pub returns-clause-variant : goal.returns-clause-variant
returns-clause-variant g c = sym (lt-ltb _ _ (omega (arith, within g (goal.at.returns-clause-variant g c).In_ok-found, list_length c.args.self.now)))

pub returns-clause-items : goal.returns-clause-items
returns-clause-items g c =
    let b = c.args.self.now in
    ap (λ xs. take (b.len - 1) (slice_set xs (b.len - 1) c.args.blank)) c.copy_within.ensures.after ∙ removed b.items c.args.at b.len c.args.blank (within g (goal.at.returns-clause-items g c).In_ok-found) (omega (arith, b.fits, b.full))
