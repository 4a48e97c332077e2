use Rattle.std.proofs.Common.{◌≡◌, Some, None, Option, MatchOption, Ok, Result, subst, arith, rules}
use Rattle.ciphers.specs.declared.fault.Fault.{Fault}
use Rattle.std.proofs.lemmas.Result.{err_from_is_err_and}
use Rattle.encoding.specs.Messages.{Ordered}
use Rattle.encoding.specs.Orders.{lower}
use Rattle.encoding.specs.Scanning.{IsField, number_is}
use Rattle.encoding.proofs.Places.{early, refused, taken}
use Rattle.encoding.proofs.message.step.Given as given
use Rattle.encoding.proofs.message.step.Goals as goal
use Rattle.encoding.proofs.message.step.Goals.{In_ok-piece}

-- the record's fields are in order, from any number up to the first
ordered : (g : given.Over) (r : g.row.R.Denot) → Ordered g.R.Message.knows 0 15 (g.R.Message.fields r)
ordered g r = lower g.R.Message.knows 1 0 15 (g.R.Message.fields r) (omega arith) (g.met.R.Message.sound r).ordered

some : {T : Type 0} (P : Type 0) (Q : T → Type 0) (o : Option T) (x : T) → MatchOption o ⊥ (λ y. ◌≡◌ {A = Result T Fault} (Ok x) (Ok y)) → MatchOption o P Q → Q x
some P Q None x e h = absurd e
some P Q (Some y) x e h = let z : y ≡ x = cc in subst Q z h

found : (g : given.Over) (c : In_ok-piece g) → IsField c.args.rest.now c.in_ok-piece.piece
found g c = some _ _ c.scan.result c.in_ok-piece.piece c.in_ok-piece.ensures.cases c.scan.ensures

pub returns-then-piece-last : goal.returns-then-piece-last
returns-then-piece-last g c = (
  search rules,
  early g.R.Message.fields g.R.Message.knows (ordered g) c.args.made.now c.args.rest.now c.in_ok-piece.piece (found g (goal.at.returns-then-piece-last g c).In_ok-piece)
      (omega (arith, number_is c.in_ok-piece.piece.number c.in_ok-piece.piece.content, c.if-piece-last.true, c.requires)),
)

pub returns-in_err-add : goal.returns-in_err-add
returns-in_err-add g c =
    let p = err_from_is_err_and c.from_residual-in_err-add.result c.from_residual-in_err-add.ensures.1 in
    rw (p.1, p.2) (
      c.in_err-add.ensures.fault,
      refused g.R.Message.fields g.R.Message.knows (ordered g) c.args.made.now c.add.new.self c.args.rest.now c.in_ok-piece.piece (found g (goal.at.returns-in_err-add g c).In_ok-piece)
          (omega (arith, c.if-piece-last.false, c.requires)) c.in_err-add.ensures.took,
    )

pub returns : goal.returns
returns g c =
    taken g.R.Message.fields g.R.Message.knows (ordered g) c.args.made.now c.add.new.self c.args.rest.now c.in_ok-piece.piece (found g (goal.at.returns g c).In_ok-piece) (omega (arith, c.if-piece-last.false, c.requires)) c.in_ok-add.ensures.took
