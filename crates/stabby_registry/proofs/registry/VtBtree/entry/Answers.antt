use Rattle.std.proofs.Common.{rules, sym, subst, ◌∙◌, ◌≤◌, length, IfOk, MatchOption}
use Rattle.stabby_cell.specs.Passes.{Looked, front_of}
use Rattle.stabby_cell.specs.Turns.{GaveBack}
use Rattle.stabby_cell.proofs.CallLemmas.{looked_released}
use Rattle.stabby_registry.specs.Inserts.{IsNumber}
use Rattle.stabby_registry.proofs.Versions.{turn_version}
use Rattle.stabby_registry.proofs.registry.VtBtree.entry.Goals as goal

pub returns-clause-looked : goal.returns-clause-looked
returns-clause-looked g c =
    let h : Looked c.args.pass.now c.release.new.self.0 = looked_released _ _ _ c.take-turn.ensures.took c.release.ensures.released in search rules

pub returns-clause-entry : goal.returns-clause-entry
returns-clause-entry g c =
    let both = turn_version c.args.self.now c.take-turn.result c.take-turn.ensures.turn c.take-turn.ensures.cell c.args.self.now.empty in
    let h : IfOk c.handle_of-entry.result (λ entry. MatchOption entry (length (front_of c.release.new.self.0) ≤ c.args.number) (λ table. IsNumber (front_of c.release.new.self.0) table.value c.args.number)) =
    subst (λ f. IfOk c.handle_of-entry.result (λ entry. MatchOption entry (length f ≤ c.args.number) (λ table. IsNumber f table.value c.args.number))) (c.version.ensures ∙ both.0 ∙ sym (GaveBack.front c.release.ensures.released)) c.handle_of-entry.ensures.ok in search rules
