use Rattle.std.proofs.Common.{◌-◌}
use Rattle.stabby_vec.proofs.vec.turning.+hold_eights.Given as goal

abbrev pub decreases-hold_eights : goal.decreases-hold_eights
decreases-hold_eights g l = l.count - l.at
