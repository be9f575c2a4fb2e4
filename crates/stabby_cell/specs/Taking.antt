-- What contracts say of a pass that asked for the turn once.
use Rattle.std.specs.Prelude.{Result}
use Rattle.std.specs.Borrow.{MutBor, RattleType, Fml, RestsIfErr}
use Rattle.stabby_cell.specs.declared.chronicle.Chronicle.{Ghosts}
use Rattle.stabby_cell.specs.declared.cell.TurnCell.{TurnCell}
use Rattle.stabby_cell.specs.declared.pass.Pass.{Pass}
use Rattle.stabby_cell.specs.declared.turn.Turn.{Turn}
use Rattle.stabby_cell.specs.declared.turn.Busy.{Busy}
use Rattle.stabby_cell.specs.contracts.pass.Pass.{the_row as pass_row}
use Rattle.stabby_cell.specs.Passes.{IsPassOf, MissedTurn}
use Rattle.stabby_cell.specs.Turns.{lender_of}

-- at Busy the pass rests: it is still of its cell, and missed the turn once
abbrev pub rests_if_busy : (V E : RattleType) (g : Ghosts V.Denot E.Denot) → TurnCell V.Denot E.Denot → MutBor (Pass V.Denot E.Denot g) → Result (Turn V.Denot E.Denot g) Busy → Fml
rests_if_busy V E g cell pass result = RestsIfErr (pass_row V E g) pass lender_of result (λ p. IsPassOf cell p × MissedTurn pass.now p)
