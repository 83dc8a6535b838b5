use Rattle.std.proofs.Common.{◌≡◌, ◌+ℤ◌, ◌-ℤ◌, w64, to_z, of_z, ap₂, ◌∙◌, ap, arith, ◌*ℤ◌, pos, ◌+◌, ◌*◌}
use Rattle.std.proofs.lemmas.Int.{ints}
use Rattle.filter.proofs.moment.micros_of.Goals as goal

pub returns : goal.returns
returns c = omega (arith, ints, c.day_micros.ensures.value, c.day_micros.ensures.bound, c.time_micros.ensures.value, c.time_micros.ensures.bound, c.zone_micros.ensures.value, c.zone_micros.ensures.bound)
