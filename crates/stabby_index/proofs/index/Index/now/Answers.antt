use Rattle.std.proofs.Common.{rules, ◌≡◌, ◌∙◌, ap, sym, subst, length}
use Rattle.stabby_cell.specs.Passes.{IsPassOf, Looked, front_of, opening_stamp_of}
use Rattle.stabby_cell.specs.Turns.{GaveBack}
use Rattle.stabby_cell.proofs.CallLemmas.{looked_released}
use Rattle.stabby_index.specs.declared.version.Version.{Version}
use Rattle.stabby_index.specs.Rows.{rows_at}
use Rattle.stabby_cell.proofs.VisitLemmas.{same_stamp}
use Rattle.stabby_index.proofs.VersionLemmas.{turn_rows, counts}
use Rattle.stabby_index.proofs.index.Index.now.Goals as goal

pub returns-in-Ok-clause-looked : goal.returns-in-Ok-clause-looked
returns-in-Ok-clause-looked g c =
    let h : Looked c.args.pass.now c.release.new.self.0 = looked_released _ _ _ c.take-turn.ensures.took c.release.ensures.released in search rules

pub returns-in-Ok-clause-view : goal.returns-in-Ok-clause-view
returns-in-Ok-clause-view g c =
    let rows = turn_rows c.args.self.now c.take-turn.result c.stamp-stamp.result c.take-turn.ensures.turn c.take-turn.ensures.cell c.stamp-stamp.ensures.stamp in
    let h : c.in-Ok.view ≡ rows_at (front_of c.release.new.self.0) c.stamp-stamp.result =
    subst (λ f. c.in-Ok.view ≡ rows_at f c.stamp-stamp.result) (sym (GaveBack.front c.release.ensures.released)) (c.in-Ok.ensures.ok ∙ (ap (λ (v : Version). v.view) c.version.ensures ∙ rows)) in search rules

pub returns-in-Err-clause-looked : goal.returns-in-Err-clause-looked
returns-in-Err-clause-looked g c =
    let h : Looked c.args.pass.now c.release.new.self.0 = looked_released _ _ _ c.take-turn.ensures.took c.release.ensures.released in search rules

pub returns-in-Ok-clause-count : goal.returns-in-Ok-clause-count
returns-in-Ok-clause-count g c =
    let h : c.stamp-stamp.result ≡ length (front_of c.release.new.self.0) = counts c.args.self.now c.release.new.self.0 c.stamp-stamp.result (IsPassOf.first_is c.release.ensures.pass ∙ ap opening_stamp_of c.take-turn.ensures.cell) (c.stamp-stamp.ensures.stamp ∙ same_stamp _ _ c.release.ensures.released) in search rules
