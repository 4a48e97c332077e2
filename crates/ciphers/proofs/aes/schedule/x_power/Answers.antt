use Rattle.std.proofs.Common.{zero-add}
use Rattle.std.proofs.lemmas.List.FromFn.{get_or-map-range_with_len}
use Rattle.ciphers.specs.Fips197.{x_power}
use Rattle.ciphers.proofs.aes.schedule.x_power.Goals as goal

pub returns : goal.returns
returns c = get_or-map-range_with_len x_power 0 10 c.args.n c.args.n 0 c.requires (zero-add c.args.n)
