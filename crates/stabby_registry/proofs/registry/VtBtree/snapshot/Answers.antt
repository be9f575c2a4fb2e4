use Rattle.std.proofs.Common.{rules, sym, subst, ◌∙◌, ◌≡◌, IfOk}
use Rattle.stabby_tables.specs.Lists.{IsDistinct}
use Rattle.stabby_cell.specs.Passes.{Looked, front_of}
use Rattle.stabby_cell.specs.Turns.{GaveBack}
use Rattle.stabby_cell.proofs.CallLemmas.{looked_released}
use Rattle.stabby_registry.proofs.Versions.{turn_version}
use Rattle.stabby_registry.proofs.registry.VtBtree.snapshot.Goals as goal

pub returns-clause-looked : goal.returns-clause-looked
returns-clause-looked g c =
    let h : Looked c.args.pass.now c.release.new.self.0 = looked_released _ _ _ c.take-turn.ensures.took c.release.ensures.released in search rules

pub returns-clause-distinct : goal.returns-clause-distinct
returns-clause-distinct g c =
    let both = turn_version c.args.self.now c.take-turn.result c.take-turn.ensures.turn c.take-turn.ensures.cell c.args.self.now.empty in
    let h : IsDistinct (front_of c.release.new.self.0) = subst IsDistinct (sym (GaveBack.front c.release.ensures.released)) both.1 in search rules

pub returns-clause-list : goal.returns-clause-list
returns-clause-list g c =
    let both = turn_version c.args.self.now c.take-turn.result c.take-turn.ensures.turn c.take-turn.ensures.cell c.args.self.now.empty in
    let h : IfOk c.duplicate-catalog.result (λ catalog. catalog ≡ front_of c.release.new.self.0) =
    subst (λ f. IfOk c.duplicate-catalog.result (λ catalog. catalog ≡ f)) (c.version.ensures ∙ both.0 ∙ sym (GaveBack.front c.release.ensures.released)) c.duplicate-catalog.ensures.ok in search rules
