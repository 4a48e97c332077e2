use Rattle.std.proofs.Common.{[], ◌∷◌, sym, ap, ◌∙◌, arith}
use Rattle.encoding.specs.Layings.{laid-set, laid-past, onward-is}
use Rattle.encoding.specs.declared.output.Output.{Output}
use Rattle.encoding.proofs.output.Output.byte.Goals as goal
use Rattle.encoding.proofs.output.Output.byte.Goals.{then-self, else-self}

pub returns : goal.returns
returns c = elim c.if-self.branch [
  | then-self w ↦ record {
    after = ap (λ (o : Output). o.out.now) w.self-is ∙ sym (laid-set c.args.self.now.at c.args.byte c.args.self.now.out.now);
    ends = onward-is c.args.self.now.at (c.args.byte ∷ []) c.saturating_add-self.result (omega arith) (omega (arith, c.saturating_add-self.ensures, ap (λ (o : Output). o.at) w.self-is));
    lent = ap (λ (o : Output). o.out.ghost_name) w.self-is;
  }
  | else-self w ↦ record {
    after = ap (λ (o : Output). o.out.now) w.self-is ∙ sym (laid-past c.args.self.now.at _ c.args.self.now.out.now w.if-self.false);
    ends = onward-is c.args.self.now.at (c.args.byte ∷ []) c.saturating_add-self.result (omega arith) (omega (arith, c.saturating_add-self.ensures, ap (λ (o : Output). o.at) w.self-is));
    lent = ap (λ (o : Output). o.out.ghost_name) w.self-is;
  }
]
