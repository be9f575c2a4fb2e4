use Rattle.std.proofs.Common.{rules, sym, subst, ◌∙◌, ◌≡◌}
use Rattle.stabby_tables.specs.Lists.{IsDistinct}
use Rattle.stabby_cell.specs.Passes.{Looked, front_of}
use Rattle.stabby_cell.specs.Turns.{GaveBack}
use Rattle.stabby_cell.specs.Visits.{Visited}
use Rattle.stabby_cell.proofs.CallLemmas.{looked_released}
use Rattle.stabby_cell.proofs.VisitLemmas.{visited_released}
use Rattle.stabby_registry.specs.Visits.{HasFound}
use Rattle.stabby_registry.proofs.Versions.{turn_version}
use Rattle.stabby_registry.proofs.registry.VtBtree.find.Goals as goal

pub returns-in-Ok-clause-looked : goal.returns-in-Ok-clause-looked
returns-in-Ok-clause-looked g c =
    let h : Looked c.args.pass.now c.release.new.self.0 = looked_released _ _ _ c.take-turn.ensures.took c.release.ensures.released in search rules

pub returns-in-Err-clause-looked : goal.returns-in-Err-clause-looked
returns-in-Err-clause-looked g c =
    let h : Looked c.args.pass.now c.release.new.self.0 = looked_released _ _ _ c.take-turn.ensures.took c.release.ensures.released in search rules

pub returns-in-Ok-clause-visited : goal.returns-in-Ok-clause-visited
returns-in-Ok-clause-visited g c =
    let h : Visited c.args.pass.now c.release.new.self.0 = visited_released _ _ _ c.take-turn.ensures.took c.release.ensures.released in search rules

pub returns-in-Err-clause-visited : goal.returns-in-Err-clause-visited
returns-in-Err-clause-visited g c =
    let h : Visited c.args.pass.now c.release.new.self.0 = visited_released _ _ _ c.take-turn.ensures.took c.release.ensures.released in search rules

pub returns-in-Ok-clause-distinct : goal.returns-in-Ok-clause-distinct
returns-in-Ok-clause-distinct g c =
    let both = turn_version c.args.self.now c.take-turn.result c.take-turn.ensures.turn c.take-turn.ensures.cell c.args.self.now.empty in
    let h : IsDistinct (front_of c.release.new.self.0) = subst IsDistinct (sym (GaveBack.front c.release.ensures.released)) both.1 in search rules

pub returns-in-Err-clause-distinct : goal.returns-in-Err-clause-distinct
returns-in-Err-clause-distinct g c =
    let both = turn_version c.args.self.now c.take-turn.result c.take-turn.ensures.turn c.take-turn.ensures.cell c.args.self.now.empty in
    let h : IsDistinct (front_of c.release.new.self.0) = subst IsDistinct (sym (GaveBack.front c.release.ensures.released)) both.1 in search rules

pub returns-in-Ok-clause-found : goal.returns-in-Ok-clause-found
returns-in-Ok-clause-found g c =
    let both = turn_version c.args.self.now c.take-turn.result c.take-turn.ensures.turn c.take-turn.ensures.cell c.args.self.now.empty in
    let is : c.in-Ok.version ≡ front_of c.release.new.self.0 = c.in-Ok.ensures.ok ∙ c.version.ensures ∙ both.0 ∙ sym (GaveBack.front c.release.ensures.released) in
    let h : HasFound (front_of c.release.new.self.0) c.args.table.now c.find.result = subst (λ f. HasFound f c.args.table.now c.find.result) is c.find.ensures in search rules
