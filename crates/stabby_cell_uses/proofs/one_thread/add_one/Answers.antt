use Rattle.std.proofs.Common.{rules, ◌+◌}
use Rattle.stabby_cell.specs.Passes.{Looked, Committed, front_of}
use Rattle.stabby_cell.proofs.CallLemmas.{looked_released, committed_turn}
use Rattle.stabby_cell_uses.proofs.one_thread.add_one.Goals as goal

pub returns-then-number-clause-looked : goal.returns-then-number-clause-looked
returns-then-number-clause-looked g c =
    let h : Looked c.args.pass.now c.drop-turn.new.self.0 = looked_released _ _ _ c.take-turn.ensures.took c.drop-turn.ensures.released in search rules

pub returns-in-Ok-clause-committed : goal.returns-in-Ok-clause-committed
returns-in-Ok-clause-committed g c =
    let h : Committed c.args.pass.now c.commit.new.self.0 (front_of c.take-turn.result.pass.now) (c.version.result.now.number + 1) = committed_turn _ _ _ _ c.take-turn.ensures.took c.in-Ok.ensures.committed in (front_of c.take-turn.result.pass.now, search rules)

pub returns-in-Err-clause-looked : goal.returns-in-Err-clause-looked
returns-in-Err-clause-looked g c =
    let h : Looked c.args.pass.now c.commit.new.self.0 = looked_released _ _ _ c.take-turn.ensures.took c.in-Err.ensures.released in search rules
