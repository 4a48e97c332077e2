use Rattle.std.proofs.Common.{◌<◌, sym, arith}
use Rattle.std.proofs.Math.Seq.{take-set-lt}
use Rattle.std.proofs.lemmas.List.{set_past}
use Rattle.std.proofs.lemmas.Bool.{lt-ltb}
use Rattle.encoding.specs.Lists.{list}
use Rattle.encoding.specs.ListsLemmas.{item_within, item_past, list_length}
use Rattle.encoding.proofs.bounded.Bounded.set.Given as given
use Rattle.encoding.proofs.bounded.Bounded.set.Goals as goal
use Rattle.encoding.proofs.bounded.Bounded.set.Goals.{In_ok-found}

pub returns-in_err-found-clause-items : goal.returns-in_err-found-clause-items
returns-in_err-found-clause-items g c = sym (set_past _ _ _ (item_past (list c.args.self.now) c.args.at c.in_err-found.ensures))

within : (g : given.Over) (c : In_ok-found g) → c.args.at < c.args.self.now.len
within g c = item_within c.args.self.now c.args.at c.in_ok-found.found c.in_ok-found.ensures

pub offset_bounds-self-at : goal.offset_bounds-self-at
offset_bounds-self-at g c = omega (arith, within g (goal.at.offset_bounds-self-at g c).In_ok-found, c.args.self.now.fits)

pub listed : goal.listed
listed g c = omega (arith, within g (goal.at.listed g c).In_ok-found, c.args.self.now.fits, c.args.self.now.full)

pub bounds-self-at : goal.bounds-self-at
bounds-self-at g c = omega (arith, within g (goal.at.bounds-self-at g c).In_ok-found, c.args.self.now.fits)

pub returns-clause-variant : goal.returns-clause-variant
returns-clause-variant g c = sym (lt-ltb _ _ (omega (arith, within g (goal.at.returns-clause-variant g c).In_ok-found, list_length c.args.self.now)))

pub returns-clause-items : goal.returns-clause-items
returns-clause-items g c = let b = c.args.self.now in take-set-lt b.len b.items c.args.at c.args.x (within g (goal.at.returns-clause-items g c).In_ok-found)
