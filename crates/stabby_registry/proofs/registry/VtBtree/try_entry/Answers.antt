use Rattle.std.proofs.Common.{rules, sym, subst, ◌∙◌, ◌≤◌, ◌∷◌, [], length, MatchOption}
use Rattle.stabby_cell.specs.Passes.{Looked, front_of}
use Rattle.stabby_cell.specs.Turns.{GaveBack}
use Rattle.stabby_cell.specs.declared.view.StepKind.TheVariants.{Take, Release}
use Rattle.stabby_cell.proofs.CallLemmas.{looked_released, took_at_once}
use Rattle.stabby_registry.specs.Inserts.{IsNumber}
use Rattle.stabby_registry.specs.Tries.{TookSteps}
use Rattle.stabby_registry.proofs.Versions.{turn_version}
use Rattle.stabby_registry.proofs.Trying.{visited_once, tried_known}
use Rattle.stabby_registry.proofs.registry.VtBtree.try_entry.Goals as goal

pub returns-in-Ok-handle-clause-entry : goal.returns-in-Ok-handle-clause-entry
returns-in-Ok-handle-clause-entry g c =
    let both = turn_version c.args.self.now c.in-Ok.turn c.in-Ok.ensures.turn c.in-Ok.ensures.cell c.args.self.now.empty in
    let h : MatchOption c.in-Ok-handle.entry (length (front_of c.release.new.self.0) ≤ c.args.number) (λ table. IsNumber (front_of c.release.new.self.0) table.value c.args.number) =
    subst (λ f. MatchOption c.in-Ok-handle.entry (length f ≤ c.args.number) (λ table. IsNumber f table.value c.args.number)) (c.version.ensures ∙ both.0 ∙ sym (GaveBack.front c.release.ensures.released)) c.in-Ok-handle.ensures.ok in search rules

pub returns-in-Ok-handle-clause-looked : goal.returns-in-Ok-handle-clause-looked
returns-in-Ok-handle-clause-looked g c =
    let took = took_at_once c.args.pass.now c.in-Ok.turn.pass.now c.in-Ok.ensures.took in
    let h : Looked c.args.pass.now c.release.new.self.0 = looked_released _ _ _ took c.release.ensures.released in search rules

-- the steps of the try
pub returns-in-Ok-handle-clause-tried : goal.returns-in-Ok-handle-clause-tried
returns-in-Ok-handle-clause-tried g c =
    let h : TookSteps c.args.pass.now c.release.new.self.0 (Take ∷ Release ∷ []) = tried_known _ _ (visited_once c.args.pass.now c.in-Ok.turn.pass.now c.release.new.self.0 c.in-Ok.ensures.took c.release.ensures.released) in search rules

pub returns-in-Err-handle-clause-tried : goal.returns-in-Err-handle-clause-tried
returns-in-Err-handle-clause-tried g c =
    let h : TookSteps c.args.pass.now c.release.new.self.0 (Take ∷ Release ∷ []) = tried_known _ _ (visited_once c.args.pass.now c.in-Ok.turn.pass.now c.release.new.self.0 c.in-Ok.ensures.took c.release.ensures.released) in search rules
