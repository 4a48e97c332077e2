-- A place of a bank.
use Rattle.std.proofs.Common.{◌≡◌, ℕ, zero, suc, ◌<◌, true, List, [], ◌∷◌, length, get_or, set, refl, ap, arith}
use Rattle.keysets.specs.declared.registry.Place.{Place}
use Rattle.keysets.specs.Managers.{Maker}
use Rattle.keysets.specs.Registries.{url_at, registered_at}

pub url_at_is : {X P : Type 0} (maker : X → Maker P) (ps : List (Place X)) (n : ℕ) (d : Place X) → n < length ps → url_at maker ps n ≡ (maker (get_or ps n d).manager).type_url
url_at_is maker [] n d h = absurd (omega arith)
url_at_is maker (p ∷ ps) zero d h = refl
url_at_is maker (p ∷ ps) (suc n) d h = url_at_is maker ps n d (omega arith)

pub registered_at_is : {X : Type 0} (ps : List (Place X)) (n : ℕ) (d : Place X) → n < length ps → registered_at n ps ≡ set ps n (record { manager = (get_or ps n d).manager; registered = true })
registered_at_is [] n d h = absurd (omega arith)
registered_at_is (p ∷ ps) zero d h = refl
registered_at_is (p ∷ ps) (suc n) d h = ap (λ (l : List (Place _)). p ∷ l) (registered_at_is ps n d (omega arith))
