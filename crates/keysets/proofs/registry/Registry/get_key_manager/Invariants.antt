use Rattle.std.proofs.Common.{◌≡◌, drop}
use Rattle.keysets.specs.Registries.{registered, found}
use Rattle.keysets.proofs.registry.Registry.get_key_manager.Given as goal

abbrev pub invariant-loop-place : goal.invariant-loop-place
invariant-loop-place g l =
    found l.type_url (registered g.M.Primitives.maker g.M.KeyMaking.keys l.place-items)
    ≡ found l.type_url (registered g.M.Primitives.maker g.M.KeyMaking.keys (drop l.place-index l.place-items))
