use Rattle.std.proofs.Common.{ap}
use Rattle.std.proofs.lemmas.Slice.Eq.{bytes_eq-Decides}
use Rattle.encoding.specs.Lists.{list}
use Rattle.encoding.specs.declared.url.TypeUrl.{TypeUrl}
use Rattle.encoding.proofs.Labels.{same_url}
use Rattle.encoding.proofs.claims.urls_are_compared_by_bytes.Goals as goal

pub returns : goal.returns
returns c = λ a b.
    let d = bytes_eq-Decides (list a.text) (list b.text) in (
      λ t. same_url a b (d.0 t),
      λ e. d.1 (ap (λ (u : TypeUrl). list u.text) e),
    )
