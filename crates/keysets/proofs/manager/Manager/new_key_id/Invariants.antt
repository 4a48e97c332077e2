use Rattle.std.proofs.Common.{◌≡◌, ℕ, length, drop}
use Rattle.std.specs.Option.{option_map}
use Rattle.keysets.specs.Adding.{drawn_id, counted}
use Rattle.keysets.proofs.Ids.{later}
use Rattle.keysets.proofs.manager.Manager.new_key_id.Given as goal

abbrev pub invariant-loop-word : goal.invariant-loop-word
invariant-loop-word g l =
    (k : ℕ) × (l.taken ≡ counted k) × (g.D.Draws.left l.words ≡ drop k (g.D.Draws.left l.initial.words)) ×
    (drawn_id l.self.keys (g.D.Draws.left l.initial.words) ≡ option_map (later k) (drawn_id l.self.keys (g.D.Draws.left l.words)))

abbrev pub decreases-loop-word : goal.decreases-loop-word
decreases-loop-word g l = length (g.D.Draws.left l.words)
