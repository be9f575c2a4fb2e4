use Rattle.std.proofs.Common.{◌-◌}
use Rattle.stabby_vec.proofs.vec.turning.+hold_each.Given as goal

abbrev pub decreases-hold_each : goal.decreases-hold_each
decreases-hold_each g l = l.count - l.at
