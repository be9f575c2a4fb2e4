use Rattle.std.proofs.Common.{arith, refl, ap}
use Rattle.stabby_cell.specs.Recording.{ViewAdvances}
use Rattle.stabby_cell.specs.Passes.{TookTurn}
use Rattle.stabby_cell_uses.specs.Cells.{first_number_of}
use Rattle.stabby_cell_uses.proofs.CounterLemmas.{number_reached}
use Rattle.stabby_cell_uses.proofs.one_thread.add_outside_turn.Goals as goal

pub commit-requires-clause-follows : goal.commit-requires-clause-follows
commit-requires-clause-follows g c =
    let was = number_reached _ _ _ c.read-number.ensures.number in
    let is = number_reached _ _ _ c.take-turn.ensures.turn.version in
    let same_cell = ap first_number_of c.take-turn.ensures.cell in
    let same_first = ViewAdvances.first (TookTurn.advances c.take-turn.ensures.took) in
    let seen = c.seen-stamp.ensures.stamp in
    let stamp = c.stamp.ensures.stamp in
    let same = c.if-stamp.false in (omega arith, refl)
