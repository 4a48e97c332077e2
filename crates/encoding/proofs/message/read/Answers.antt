use Rattle.std.proofs.Common.{◌≡◌, ℕ, List, Ok, Err, Result, MatchResult, sym, ap, ◌∙◌, subst, arith, rules}
use Rattle.std.proofs.lemmas.List.{take_rest}
use Rattle.std.proofs.lemmas.Result.{err_from_is_err_and}
use Rattle.encoding.specs.Wire.{encode}
use Rattle.ciphers.specs.Faults.{fault, placed}
use Rattle.ciphers.specs.declared.fault.Fault.{Fault}
use Rattle.ciphers.specs.declared.fault.Refusal.TheVariants.{BreaksEncoding}
use Rattle.ciphers.specs.declared.fault.Layer.TheVariants.{Encoding}
use Rattle.encoding.specs.Messages.{Broken, Stuck, Went, last_of}
use Rattle.encoding.specs.Orders.{all_small, last_push}
use Rattle.encoding.proofs.Places.{place, went_more, unread}
use Rattle.encoding.proofs.message.read.Goals as goal

-- a step through the `map_err` that stamps its place
went : {T : Type 0} (P : T → Type 0) (Q : Fault → Type 0) (at : ℕ) (r : Result T Fault) (x : T)
    → MatchResult r (λ y. ◌≡◌ {A = Result T Fault} (Ok x) (Ok y)) (λ _. ⊥) → MatchResult r P Q → P x
went P Q at (Ok y) x e h = let z : y ≡ x = cc in subst P z h
went P Q at (Err d) x e h = absurd e

stuck : {T : Type 0} (P : T → Type 0) (Q : Type 0) (at : ℕ) (r : Result T Fault) (f : Fault)
    → MatchResult r (λ y. ◌≡◌ {A = Result T Fault} (Err f) (Ok y)) (λ d. f ≡ placed at d) → MatchResult r P (λ d. Broken d × Q) → (f ≡ placed at (fault BreaksEncoding Encoding)) × Q
stuck P Q at (Ok y) f e h = let z : ◌≡◌ {A = ℕ} 0 1 = cc in absurd (omega arith)
stuck P Q at (Err d) f e h = (e ∙ ap (placed at) h.0, h.1)

pub loop-at-init : goal.loop-at-init
unfolding encode last_of
loop-at-init g c = (omega arith, ap encode c.empty-made.ensures, sym (ap (last_of 0) c.empty-made.ensures))

pub returns-in_err-piece : goal.returns-in_err-piece
returns-in_err-piece g c =
    let p = err_from_is_err_and c.from_residual.result c.from_residual.ensures.1 in
    let q = stuck _ _ c.loop-at.at c.step.result c.in_err-piece.field-0.0 (search rules) c.step.ensures in
    rw (p.1, p.2)
    (unread g.R.Message.fields c.args.input.now c.loop-at.at c.in_err-piece.field-0.0 q.0
    (place g.R.Message.fields (λ r. all_small _ _ _ _ (g.met.R.Message.sound r).ordered) c.args.input.now c.loop-at.at c.loop-at.made (omega arith) c.loop-at.invariant.1
    (subst (λ (x : List ℕ). Stuck g.R.Message.fields c.loop-at.made x) (take_rest c.args.input.now c.loop-at.at) q.1)))

pub loop-at-preserved : goal.loop-at-preserved
loop-at-preserved g c =
    let piece = c.in_ok-piece.piece in
    let h = went _ _ c.loop-at.at c.step.result piece c.in_ok-piece.ensures.cases c.step.ensures in
    let w = subst (λ (x : List ℕ). Went g.R.Message.fields c.loop-at.made c.step.new.made x piece.size piece.number) (take_rest c.args.input.now c.loop-at.at) h in
    let m = went_more g.R.Message.fields c.args.input.now c.loop-at.at piece.size piece.number c.loop-at.made c.step.new.made c.loop-at.invariant.0 c.loop-at.invariant.1 w in
    (m.0, m.1, w.number ∙ sym (ap (last_of 0) w.added ∙ last_push 0 (g.R.Message.fields c.loop-at.made) w.field))
