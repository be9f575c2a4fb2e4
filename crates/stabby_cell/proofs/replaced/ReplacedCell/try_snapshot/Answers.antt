use Rattle.std.proofs.Common.{rules, sym, ap, ◌≡◌, ◌∙◌}
use Rattle.stabby_cell.specs.Passes.{front_of, Looked}
use Rattle.stabby_cell.specs.Turns.{GaveBack}
use Rattle.stabby_cell.specs.Replaced.{contents_of}
use Rattle.stabby_cell.proofs.CallLemmas.{looked_released, took_at_once}
use Rattle.stabby_cell.proofs.ReplacedLemmas.{turn_contents}
use Rattle.stabby_cell.proofs.replaced.ReplacedCell.try_snapshot.Goals as goal

pub returns-in-Ok-copy-clause-contents : goal.returns-in-Ok-copy-clause-contents
returns-in-Ok-copy-clause-contents g c =
    let is = turn_contents g.V.Chronicle.next g.met.V.Replaced.no_other c.args.self.now.cell c.in-Ok.turn c.in-Ok.ensures.turn c.in-Ok.ensures.cell in
    let h : c.in-Ok-copy.version ≡ contents_of c.args.self.now (front_of c.release.new.self.0) = g.met.V.Replaced.exact _ _ c.in-Ok-copy.ensures.ok ∙ c.version.ensures ∙ is ∙ ap (contents_of c.args.self.now) (sym (GaveBack.front c.release.ensures.released)) in search rules

pub returns-in-Ok-copy-clause-looked : goal.returns-in-Ok-copy-clause-looked
returns-in-Ok-copy-clause-looked g c =
    let took = took_at_once c.args.pass.now c.in-Ok.turn.pass.now c.in-Ok.ensures.took in
    let h : Looked c.args.pass.now c.release.new.self.0 = looked_released _ _ _ took c.release.ensures.released in search rules
