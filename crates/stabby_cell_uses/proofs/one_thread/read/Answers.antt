use Rattle.std.proofs.Common.{rules}
use Rattle.stabby_cell.specs.Passes.{Looked}
use Rattle.stabby_cell.proofs.CallLemmas.{looked_released}
use Rattle.stabby_cell_uses.proofs.one_thread.read.Goals as goal

pub returns-clause-looked : goal.returns-clause-looked
returns-clause-looked g c =
    let h : Looked c.args.pass.now c.drop-turn.new.self.0 = looked_released _ _ _ c.take-turn.ensures.took c.drop-turn.ensures.released in search rules
