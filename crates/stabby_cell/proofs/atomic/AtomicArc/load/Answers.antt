use Rattle.std.proofs.Common.{rules, ◌≡◌}
use Rattle.stabby_cell.specs.Passes.{front_of, Looked}
use Rattle.stabby_cell.specs.Values.{value_of}
use Rattle.stabby_cell.specs.Shared.{value_at}
use Rattle.stabby_cell.proofs.CallLemmas.{looked_released}
use Rattle.stabby_cell.proofs.SharedLemmas.{value_read}
use Rattle.stabby_cell.proofs.atomic.AtomicArc.load.Goals as goal

pub returns-in_err-copied-clause-looked : goal.returns-in_err-copied-clause-looked
returns-in_err-copied-clause-looked g c =
    let h : Looked c.args.pass.now c.release.new.self.0 = looked_released _ _ _ c.take-turn.ensures.took c.release.ensures.released in search rules

pub returns-clause-looked : goal.returns-clause-looked
returns-clause-looked g c =
    let h : Looked c.args.pass.now c.release.new.self.0 = looked_released _ _ _ c.take-turn.ensures.took c.release.ensures.released in search rules

pub returns-clause-value : goal.returns-clause-value
returns-clause-value g c =
    let h : value_of c.in_ok-copied.field-0 ≡ value_at c.args.self.now (front_of c.release.new.self.0) =
    value_read c.args.self.now c.take-turn.result _ _ _ c.in_ok-copied.ensures.ok c.version.ensures c.take-turn.ensures.turn c.take-turn.ensures.cell c.release.ensures.released in search rules
