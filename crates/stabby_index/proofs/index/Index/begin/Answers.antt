use Rattle.std.proofs.Common.{rules, ◌≡◌, ◌∙◌, ap, sym, subst}
use Rattle.stabby_cell.specs.Passes.{Looked, front_of, stamp_of}
use Rattle.stabby_cell.specs.Turns.{GaveBack}
use Rattle.stabby_cell.proofs.CallLemmas.{looked_released}
use Rattle.stabby_cell.proofs.VisitLemmas.{same_stamp}
use Rattle.stabby_index.specs.declared.version.Version.{Version}
use Rattle.stabby_index.specs.Rows.{rows_at}
use Rattle.stabby_index.proofs.VersionLemmas.{turn_rows}
use Rattle.stabby_index.proofs.index.Index.begin.Goals as goal

pub returns-in-Some-clause-looked : goal.returns-in-Some-clause-looked
returns-in-Some-clause-looked g c =
    let h : Looked c.args.pass.now c.drop-turn.new.self.0 = looked_released _ _ _ c.take-turn.ensures.took c.drop-turn.ensures.released in search rules

pub returns-then-stamp-eq-LAST_STAMP-clause-looked : goal.returns-then-stamp-eq-LAST_STAMP-clause-looked
returns-then-stamp-eq-LAST_STAMP-clause-looked g c =
    let h : Looked c.args.pass.now c.drop-turn-then-stamp-eq-LAST_STAMP.new.self.0 = looked_released _ _ _ c.take-turn.ensures.took c.drop-turn-then-stamp-eq-LAST_STAMP.ensures.released in search rules

pub returns-in-Ok-clause-looked : goal.returns-in-Ok-clause-looked
returns-in-Ok-clause-looked g c =
    let h : Looked c.args.pass.now c.release.new.self.0 = looked_released _ _ _ c.take-turn.ensures.took c.release.ensures.released in search rules

pub returns-in-Ok-clause-rows : goal.returns-in-Ok-clause-rows
returns-in-Ok-clause-rows g c =
    let rows = turn_rows c.args.self.now c.take-turn.result c.stamp-stamp.result c.take-turn.ensures.turn c.take-turn.ensures.cell c.stamp-stamp.ensures.stamp in
    let stamps = c.stamp-stamp.ensures.stamp ∙ same_stamp _ _ c.release.ensures.released in
    let h : c.in-Ok.rows ≡ rows_at (front_of c.release.new.self.0) (stamp_of c.release.new.self.0) =
    subst (λ f. c.in-Ok.rows ≡ rows_at f (stamp_of c.release.new.self.0)) (sym (GaveBack.front c.release.ensures.released))
    (c.in-Ok.ensures.ok ∙ (ap (λ (v : Version). v.view) c.version.ensures ∙ (rows ∙ ap (rows_at _) stamps))) in search rules

pub returns-in-Err-clause-looked : goal.returns-in-Err-clause-looked
returns-in-Err-clause-looked g c =
    let h : Looked c.args.pass.now c.release.new.self.0 = looked_released _ _ _ c.take-turn.ensures.took c.release.ensures.released in search rules
