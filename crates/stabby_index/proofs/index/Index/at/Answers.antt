use Rattle.std.proofs.Common.{rules, ◌≡◌, sym, subst}
use Rattle.std.specs.Prelude.{IfOk, IfSome}
use Rattle.stabby_cell.specs.Passes.{Looked, front_of}
use Rattle.stabby_cell.specs.Turns.{GaveBack, pass_of}
use Rattle.stabby_cell.proofs.CallLemmas.{looked_released}
use Rattle.stabby_index.specs.Rows.{rows_at}
use Rattle.stabby_index.specs.Turns.{HasRowsAt}
use Rattle.stabby_index.proofs.VersionLemmas.{kept_rows, in_found}
use Rattle.stabby_index.proofs.index.Index.at.Goals as goal

pub returns-clause-looked : goal.returns-clause-looked
returns-clause-looked g c =
    let h : Looked c.args.pass.now c.release.new.self.0 = looked_released _ _ _ c.take-turn.ensures.took c.release.ensures.released in search rules

pub returns-clause-view : goal.returns-clause-view
returns-clause-view g c =
    let found = in_found (HasRowsAt c.take-turn.result c.args.stamp)
    (λ view. view ≡ rows_at (front_of (pass_of c.take-turn.result)) c.args.stamp) (λ view h. kept_rows c.args.self.now c.take-turn.result c.args.stamp view c.take-turn.ensures.cell h) c.view_at-found.result c.view_at-found.ensures.view in
    let h : IfOk c.view_at-found.result (λ found. IfSome found (λ view. view ≡ rows_at (front_of c.release.new.self.0) c.args.stamp)) =
    subst (λ f. IfOk c.view_at-found.result (λ found. IfSome found (λ view. view ≡ rows_at f c.args.stamp))) (sym (GaveBack.front c.release.ensures.released)) found in search rules
