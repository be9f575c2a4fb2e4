use Rattle.std.proofs.Common.{rules, ◌≡◌, ◌<◌, ◌-◌, ◌^◌, ◌∙◌, refl, sym, ap, subst, arith}
use Rattle.stabby_cell.specs.Passes.{Committed, front_of, stamp_of}
use Rattle.stabby_cell.specs.Turns.{GaveBack, version_of}
use Rattle.stabby_cell.specs.Visits.{Visited}
use Rattle.stabby_cell.specs.Replaced.{contents_of}
use Rattle.stabby_cell.proofs.CallLemmas.{committed_turn}
use Rattle.stabby_cell.proofs.VisitLemmas.{visited_released, grew_between, same_front, same_stamp}
use Rattle.stabby_cell.proofs.ReplacedLemmas.{turn_contents}
use Rattle.stabby_cell.proofs.replaced.ReplacedCell.offer.Goals as goal
use Rattle.stabby_cell.proofs.replaced.ReplacedCell.offer.Goals.{in-Ok, in-Err}

pub commit-requires-clause-follows : goal.commit-requires-clause-follows
commit-requires-clause-follows g c =
    let old = version_of c.take-turn.result in subst (λ e. g.V.Chronicle.next old e c.args.next) (sym (g.met.V.Replaced.entry_is c.args.next)) (g.met.V.Replaced.follows old c.args.next)

pub returns-then-left-eq0-clause-offered : goal.returns-then-left-eq0-clause-offered
returns-then-left-eq0-clause-offered g c =
    let visited : Visited c.args.pass.now c.drop-turn.new.self.0 = visited_released _ _ _ c.take-turn.ensures.took c.drop-turn.ensures.released in
    let grew : stamp_of c.args.pass.now < stamp_of c.drop-turn.new.self.0 = subst (λ k. stamp_of c.args.pass.now < k) (same_stamp _ _ c.drop-turn.ensures.released)
    (grew_between _ _ _ _ c.take-turn.ensures.took c.seen-base.ensures.stamp c.stamp.ensures.stamp c.if-stamp-base.true) in ((search rules), (search rules), c.if-left-eq0.true)

pub returns-then-stamp-base-clause-offered : goal.returns-then-stamp-base-clause-offered
returns-then-stamp-base-clause-offered g c =
    let visited : Visited c.args.pass.now c.drop-turn-then-stamp-base.new.self.0 = visited_released _ _ _ c.take-turn.ensures.took c.drop-turn-then-stamp-base.ensures.released in
    let grew : stamp_of c.args.pass.now < stamp_of c.drop-turn-then-stamp-base.new.self.0 = subst (λ k. stamp_of c.args.pass.now < k) (same_stamp _ _ c.drop-turn-then-stamp-base.ensures.released)
    (grew_between _ _ _ _ c.take-turn.ensures.took c.seen-base.ensures.stamp c.stamp.ensures.stamp c.if-stamp-base.true) in
    let some = c.if-left-eq0.false in
    elim c.match-copy.branch [
      | in-Ok w ↦
          let is = turn_contents g.V.Chronicle.next g.met.V.Replaced.no_other c.args.self.now.cell c.take-turn.result c.take-turn.ensures.turn c.take-turn.ensures.cell in
          let newer : w.in-Ok.newer ≡ contents_of c.args.self.now (front_of c.drop-turn-then-stamp-base.new.self.0) = g.met.V.Replaced.exact _ _ w.in-Ok.ensures.ok ∙ c.version.ensures ∙ is ∙ ap (contents_of c.args.self.now) (sym (GaveBack.front c.drop-turn-then-stamp-base.ensures.released)) in
          rw w.result-is ((search rules), (search rules), omega arith, (search rules))
      | in-Err w ↦ rw w.result-is (search rules)
    ]

pub returns-in-Ok-commit-clause-offered : goal.returns-in-Ok-commit-clause-offered
returns-in-Ok-commit-clause-offered g c =
    let same = same_front _ _ _ _ c.take-turn.ensures.took c.seen-base.ensures.stamp c.stamp.ensures.stamp c.if-stamp-base.false in
    let h : Committed c.args.pass.now c.commit.new.self.0 (front_of c.args.pass.now) (g.V.Chronicle.entry_of c.args.next) =
    subst (λ f. Committed c.args.pass.now c.commit.new.self.0 f (g.V.Chronicle.entry_of c.args.next)) same (committed_turn _ _ _ _ c.take-turn.ensures.took c.in-Ok-commit.ensures.committed) in search rules

pub returns-clause-offered : goal.returns-clause-offered
returns-clause-offered g c =
    let same = same_front _ _ _ _ c.take-turn.ensures.took c.seen-base.ensures.stamp c.stamp.ensures.stamp c.if-stamp-base.false in
    let visited : Visited c.args.pass.now c.commit.new.self.0 = visited_released _ _ _ c.take-turn.ensures.took c.in-Err-commit.ensures.released in
    let front : front_of c.commit.new.self.0 ≡ front_of c.args.pass.now = GaveBack.front c.in-Err-commit.ensures.released ∙ same in
    let last : stamp_of c.commit.new.self.0 ≡ 2 ^ 63 - 1 = sym (same_stamp _ _ c.in-Err-commit.ensures.released) ∙ c.in-Err-commit.ensures.full.0 refl in
    ((search rules), (search rules), (search rules))
