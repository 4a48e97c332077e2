use Rattle.keysets.proofs.Positions.{position-finds, position_found_by, position-misses, position-missed}
use Rattle.keysets.proofs.claims.ids_find_the_first_key.Goals as goal

pub returns : goal.returns
returns c = record { finds = position-finds; found = position_found_by; misses = position-misses; missed = position-missed }
