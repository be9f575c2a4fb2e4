use Rattle.std.proofs.Common.{rules, IfOk}
use Rattle.stabby_cell.specs.Passes.{Looked}
use Rattle.stabby_cell.specs.Shared.{AnswersAt}
use Rattle.stabby_cell.proofs.CallLemmas.{looked_released}
use Rattle.stabby_cell.proofs.SharedLemmas.{answered_at}
use Rattle.stabby_cell.proofs.atomic.AtomicArc.load_at.Goals as goal

pub returns-clause-looked : goal.returns-clause-looked
returns-clause-looked g c =
    let h : Looked c.args.pass.now c.release.new.self.0 = looked_released _ _ _ c.take-turn.ensures.took c.release.ensures.released in search rules

pub returns-clause-answer : goal.returns-clause-answer
returns-clause-answer g c =
    let h : IfOk c.kept_at-answer.result (AnswersAt c.args.self.now c.release.new.self.0 c.args.stamp) = answered_at c.args.self.now c.take-turn.result _ _ _ c.kept_at-answer.ensures.answer c.take-turn.ensures.cell c.release.ensures.released in search rules
