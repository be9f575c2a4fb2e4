use Rattle.std.proofs.Common.{rules, ◌≡◌}
use Rattle.stabby_cell.specs.Passes.{front_of, Looked}
use Rattle.stabby_cell.specs.Values.{value_of}
use Rattle.stabby_cell.specs.Shared.{value_at}
use Rattle.stabby_cell.proofs.CallLemmas.{looked_released, took_at_once}
use Rattle.stabby_cell.proofs.SharedLemmas.{value_read}
use Rattle.stabby_cell.proofs.atomic.AtomicArc.try_load.Goals as goal

pub returns-in-Ok-copy-clause-value : goal.returns-in-Ok-copy-clause-value
returns-in-Ok-copy-clause-value g c =
    let h : value_of c.in-Ok-copy.value ≡ value_at c.args.self.now (front_of c.release.new.self.0) =
    value_read c.args.self.now c.in-Ok.turn _ _ _ c.in-Ok-copy.ensures.ok c.version.ensures c.in-Ok.ensures.turn c.in-Ok.ensures.cell c.release.ensures.released in search rules

pub returns-in-Ok-copy-clause-looked : goal.returns-in-Ok-copy-clause-looked
returns-in-Ok-copy-clause-looked g c =
    let took = took_at_once c.args.pass.now c.in-Ok.turn.pass.now c.in-Ok.ensures.took in
    let h : Looked c.args.pass.now c.release.new.self.0 = looked_released _ _ _ took c.release.ensures.released in search rules

pub returns-in-Err-copy-clause-fault : goal.returns-in-Err-copy-clause-fault
returns-in-Err-copy-clause-fault g c =
    let took = took_at_once c.args.pass.now c.in-Ok.turn.pass.now c.in-Ok.ensures.took in
    let h : Looked c.args.pass.now c.release.new.self.0 = looked_released _ _ _ took c.release.ensures.released in search rules
