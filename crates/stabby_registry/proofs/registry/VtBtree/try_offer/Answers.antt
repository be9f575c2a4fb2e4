use Rattle.std.proofs.Common.{rules, ap, sym, subst, ◌∙◌, ◌≡◌}
use Rattle.stabby_cell.specs.Passes.{Committed, front_of, stamp_of}
use Rattle.stabby_cell.proofs.CallLemmas.{took_at_once, committed_turn}
use Rattle.stabby_registry.specs.Catalog.{last_table}
use Rattle.stabby_registry.specs.TryVisits.{VisitedOnce, CommittedOnce}
use Rattle.stabby_registry.proofs.Versions.{turn_version, last-push}
use Rattle.stabby_registry.proofs.PassLemmas.{took_at_front}
use Rattle.stabby_registry.proofs.Trying.{grew_between, same_stamp, visited_once, committed_once}
use Rattle.stabby_registry.proofs.registry.VtBtree.try_offer.Goals as goal

pub commit-requires-clause-follows : goal.commit-requires-clause-follows
commit-requires-clause-follows g c =
    let both = turn_version c.args.self.now c.in-Ok.turn c.in-Ok.ensures.turn c.in-Ok.ensures.cell c.args.self.now.empty in
    let same = took_at_front c.args.pass.now c.in-Ok.turn.pass.now _ _ (took_at_once c.args.pass.now c.in-Ok.turn.pass.now c.in-Ok.ensures.took) c.seen-base.ensures.stamp c.stamp-seen.ensures.stamp c.if-seen-base.false in
    let follows = c.requires.follows.1 in
    let last : last_table c.args.next ≡ c.requires.follows.0 = ap last_table follows.appended ∙ last-push (front_of c.args.pass.now) c.requires.follows.0 in
    rw (both.0, ← same, last) follows

pub returns-then-seen-base-clause-refused : goal.returns-then-seen-base-clause-refused
returns-then-seen-base-clause-refused g c =
    let seen : c.stamp-seen.result ≡ stamp_of c.drop-turn.new.self.0 = same_stamp c.in-Ok.turn.pass.now c.drop-turn.new.self.0 c.stamp-seen.result c.stamp-seen.ensures.stamp c.drop-turn.ensures.released in
    let visited : VisitedOnce c.args.pass.now c.drop-turn.new.self.0 = visited_once c.args.pass.now c.in-Ok.turn.pass.now c.drop-turn.new.self.0 c.in-Ok.ensures.took c.drop-turn.ensures.released in
    (c.seen-base.ensures.stamp, (search rules), grew_between c.args.pass.now c.in-Ok.turn.pass.now c.seen-base.result c.stamp-seen.result c.seen-base.ensures.stamp c.stamp-seen.ensures.stamp c.in-Ok.ensures.took c.if-seen-base.true, (search rules))

pub returns-in-Ok-commit-clause-committed : goal.returns-in-Ok-commit-clause-committed
returns-in-Ok-commit-clause-committed g c =
    let took = took_at_once c.args.pass.now c.in-Ok.turn.pass.now c.in-Ok.ensures.took in
    let same = took_at_front c.args.pass.now c.in-Ok.turn.pass.now _ _ took c.seen-base.ensures.stamp c.stamp-seen.ensures.stamp c.if-seen-base.false in
    let h : Committed c.args.pass.now c.commit.new.self.0 (front_of c.args.pass.now) (last_table c.args.next) =
    subst (λ f. Committed c.args.pass.now c.commit.new.self.0 f (last_table c.args.next)) (sym same) (committed_turn c.args.pass.now c.in-Ok.turn.pass.now _ _ took c.in-Ok-commit.ensures.committed) in search rules

pub returns-in-Ok-commit-clause-committed_once : goal.returns-in-Ok-commit-clause-committed_once
returns-in-Ok-commit-clause-committed_once g c =
    let h : CommittedOnce c.args.pass.now c.commit.new.self.0 = committed_once c.args.pass.now c.in-Ok.turn.pass.now _ _ _ _ c.in-Ok.ensures.took c.seen-base.ensures.stamp c.stamp-seen.ensures.stamp c.if-seen-base.false c.in-Ok-commit.ensures.committed in search rules
