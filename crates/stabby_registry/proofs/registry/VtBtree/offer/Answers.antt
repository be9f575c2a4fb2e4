use Rattle.std.proofs.Common.{rules, ap, sym, subst, ◌∙◌, ◌≡◌, ◌<◌}
use Rattle.stabby_tables.specs.Lists.{IsDistinct}
use Rattle.stabby_cell.specs.Passes.{Looked, Committed, front_of, stamp_of}
use Rattle.stabby_cell.specs.Turns.{GaveBack}
use Rattle.stabby_cell.specs.Visits.{Visited}
use Rattle.stabby_cell.proofs.CallLemmas.{looked_released, committed_turn}
use Rattle.stabby_cell.proofs.VisitLemmas.{visited_released, grew_between, same_stamp}
use Rattle.stabby_registry.specs.Catalog.{last_table}
use Rattle.stabby_registry.proofs.Versions.{turn_version, last-push}
use Rattle.stabby_registry.proofs.PassLemmas.{took_at_front}
use Rattle.stabby_registry.proofs.registry.VtBtree.offer.Goals as goal

pub commit-requires-clause-follows : goal.commit-requires-clause-follows
commit-requires-clause-follows g c =
    let both = turn_version c.args.self.now c.take-turn.result c.take-turn.ensures.turn c.take-turn.ensures.cell c.args.self.now.empty in
    let same = took_at_front _ _ _ _ c.take-turn.ensures.took c.seen-base.ensures.stamp c.stamp.ensures.stamp c.if-stamp-base.false in
    let follows = c.requires.follows.1 in
    let last : last_table c.args.next ≡ c.requires.follows.0 = ap last_table follows.appended ∙ last-push (front_of c.args.pass.now) c.requires.follows.0 in
    rw (both.0, ← same, last) follows

pub returns-in-Ok-clause-offered : goal.returns-in-Ok-clause-offered
returns-in-Ok-clause-offered g c =
    let visited : Visited c.args.pass.now c.release.new.self.0 = visited_released _ _ _ c.take-turn.ensures.took c.release.ensures.released in
    let grew : stamp_of c.args.pass.now < stamp_of c.release.new.self.0 = subst (λ k. stamp_of c.args.pass.now < k) (same_stamp _ _ c.release.ensures.released)
    (grew_between _ _ _ _ c.take-turn.ensures.took c.seen-base.ensures.stamp c.stamp.ensures.stamp c.if-stamp-base.true) in
    let both = turn_version c.args.self.now c.take-turn.result c.take-turn.ensures.turn c.take-turn.ensures.cell c.args.self.now.empty in
    let once : IsDistinct (front_of c.release.new.self.0) = subst IsDistinct (sym (GaveBack.front c.release.ensures.released)) both.1 in
    let is : c.in-Ok.newer ≡ front_of c.release.new.self.0 = c.in-Ok.ensures.ok ∙ c.version.ensures ∙ both.0 ∙ sym (GaveBack.front c.release.ensures.released) in
    ((search rules), (search rules), (search rules), (search rules))

pub returns-in-Err-clause-looked : goal.returns-in-Err-clause-looked
returns-in-Err-clause-looked g c =
    let h : Looked c.args.pass.now c.release.new.self.0 = looked_released _ _ _ c.take-turn.ensures.took c.release.ensures.released in search rules

pub returns-clause-offered : goal.returns-clause-offered
returns-clause-offered g c =
    let same = took_at_front _ _ _ _ c.take-turn.ensures.took c.seen-base.ensures.stamp c.stamp.ensures.stamp c.if-stamp-base.false in
    let h : Committed c.args.pass.now c.commit.new.self.0 (front_of c.args.pass.now) (last_table c.args.next) =
    subst (λ f. Committed c.args.pass.now c.commit.new.self.0 f (last_table c.args.next)) (sym same) (committed_turn _ _ _ _ c.take-turn.ensures.took c.in-Ok-commit.ensures.committed) in search rules
