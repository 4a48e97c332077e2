use Rattle.std.proofs.Common.{sym, ap, ◌∙◌}
use Rattle.std.proofs.lemmas.Slice.Eq.{slice_eq-Decides}
use Rattle.encoding.specs.Lists.{list}
use Rattle.encoding.specs.declared.url.TypeUrl.{TypeUrl}
use Rattle.encoding.proofs.Labels.{same_url}
use Rattle.encoding.proofs.url.TypeUrlPartialEq.eq.Goals as goal
use Rattle.std.proofs.lemmas.Bool.Decides.{Decides-eqb}

pub returns-clause-same : goal.returns-clause-same
returns-clause-same c =
    let d = slice_eq-Decides Decides-eqb _ _ _ c.eq.ensures in (
      λ t. same_url c.args.self.now c.args.other.now (sym c.as_bytes.ensures ∙ d.0 t ∙ c.as_bytes-2.ensures),
      λ e. d.1 (c.as_bytes.ensures ∙ ap (λ (u : TypeUrl). list u.text) e ∙ sym c.as_bytes-2.ensures),
    )
