use Rattle.stabby_vec.proofs.TurnLemmas.{turned_lists}
use Rattle.stabby_vec.proofs.vec.turning.turn_row.Goals as goal

pub returns-clause-turned : goal.returns-clause-turned
returns-clause-turned g c = turned_lists c.hold_eights.ensures c.requires.in_bounds
