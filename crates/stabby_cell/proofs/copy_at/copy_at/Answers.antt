use Rattle.std.proofs.Common.{◌∙◌}
use Rattle.stabby_cell.specs.Passes.{front_of, entries_before}
use Rattle.stabby_cell.specs.Turns.{cell_of, pass_of}
use Rattle.stabby_cell.proofs.ReplacedLemmas.{older_contents}
use Rattle.stabby_cell.proofs.copy_at.copy_at.Goals as goal

pub returns-in-Ok-clause-contents : goal.returns-in-Ok-clause-contents
returns-in-Ok-clause-contents g c =
    let t = c.args.turn.now in
    g.met.V.Replaced.exact _ _ c.in-Ok.ensures.ok ∙ older_contents g.V.Chronicle.next g.met.V.Replaced.no_other (cell_of t) (entries_before (cell_of t) (front_of (pass_of t)) c.args.stamp) c.in-Some.version.now c.in-Some.ensures.version
