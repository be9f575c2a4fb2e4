use Rattle.std.proofs.Common.{rules}
use Rattle.stabby_cell.specs.Passes.{Looked}
use Rattle.stabby_cell.specs.Shared.{DiffersNow}
use Rattle.stabby_cell.proofs.CallLemmas.{looked_released}
use Rattle.stabby_cell.proofs.SharedLemmas.{differs_now}
use Rattle.stabby_cell.proofs.atomic.AtomicArc.is.Goals as goal

pub returns-then-stamp-expected-clause-looked : goal.returns-then-stamp-expected-clause-looked
returns-then-stamp-expected-clause-looked g c =
    let h : Looked c.args.pass.now c.drop-turn.new.self.0 = looked_released _ _ _ c.take-turn.ensures.took c.drop-turn.ensures.released in search rules

pub returns-in-Ok-clause-looked : goal.returns-in-Ok-clause-looked
returns-in-Ok-clause-looked g c =
    let h : Looked c.args.pass.now c.drop-turn-in-Ok.new.self.0 = looked_released _ _ _ c.take-turn.ensures.took c.drop-turn-in-Ok.ensures.released in search rules

pub returns-in-Ok-clause-fault : goal.returns-in-Ok-clause-fault
returns-in-Ok-clause-fault g c =
    let h : DiffersNow c.args.self.now c.drop-turn-in-Ok.new.self.0 c.args.expected c.args.expected c.stamp-stamp.result c.in-Ok.current =
    differs_now c.args.self.now c.take-turn.result _ _ _ _ _ c.in-Ok.ensures.ok c.version.ensures c.take-turn.ensures.turn c.take-turn.ensures.cell c.drop-turn-in-Ok.ensures.released c.stamp-stamp.ensures.stamp c.if-stamp-expected.false in search rules

pub returns-clause-looked : goal.returns-clause-looked
returns-clause-looked g c =
    let h : Looked c.args.pass.now c.drop-turn-2.new.self.0 = looked_released _ _ _ c.take-turn.ensures.took c.drop-turn-2.ensures.released in search rules
