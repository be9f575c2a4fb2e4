use Rattle.std.proofs.Common.{rules, sym, ap, subst, ◌≡◌, ◌∙◌, IfOk}
use Rattle.stabby_cell.specs.Passes.{front_of}
use Rattle.stabby_cell.specs.Turns.{GaveBack}
use Rattle.stabby_cell.specs.Visits.{Visited}
use Rattle.stabby_cell.specs.Replaced.{contents_of}
use Rattle.stabby_cell.proofs.VisitLemmas.{visited_released}
use Rattle.stabby_cell.proofs.ReplacedLemmas.{turn_contents, copied}
use Rattle.stabby_cell.proofs.replaced.ReplacedCell.load.Goals as goal

pub returns-clause-visited : goal.returns-clause-visited
returns-clause-visited g c =
    let h : Visited c.args.pass.now c.release.new.self.0 = visited_released _ _ _ c.take-turn.ensures.took c.release.ensures.released in search rules

pub returns-clause-contents : goal.returns-clause-contents
returns-clause-contents g c =
    let is = turn_contents g.V.Chronicle.next g.met.V.Replaced.no_other c.args.self.now.cell c.take-turn.result c.take-turn.ensures.turn c.take-turn.ensures.cell in
    let h : IfOk c.copy-copied.result (λ v. v ≡ contents_of c.args.self.now (front_of c.release.new.self.0)) =
    copied g.V.Chronicle.same g.met.V.Replaced.exact _ _ _ c.copy-copied.ensures.ok (c.version.ensures ∙ is ∙ ap (contents_of c.args.self.now) (sym (GaveBack.front c.release.ensures.released))) in search rules
