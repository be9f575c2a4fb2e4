use Rattle.std.proofs.Common.{rules, of_calls, ◌≡◌, ◌+◌, Ok, Err, Some, None, refl, sym, ap, ◌∙◌, subst, arith, length}
use Rattle.stabby_cell.specs.Recording.{ViewAdvances}
use Rattle.stabby_cell.specs.Passes.{Looked, front_of, first_stamp_of, stamp_of}
use Rattle.stabby_cell.specs.Edits.{Answered, LosesEdit}
use Rattle.stabby_cell.proofs.CallLemmas.{looked_looked}
use Rattle.stabby_cell.proofs.VisitLemmas.{looked_visited}
use Rattle.stabby_cell.proofs.EditLemmas.{Reading, read_afresh, read_newer, called_on, answered, committed, lost_last, whole_never_loses}
use Rattle.stabby_cell.proofs.replaced.ReplacedCell.edit.Goals as goal

pub returns-in-Err-clause-looked : goal.returns-in-Err-clause-looked
returns-in-Err-clause-looked g c = looked_visited _ _ c.load.ensures.visited

pub loop-round-init : goal.loop-round-init
loop-round-init g c = record {
  callable = search of_calls;
  pass = search rules;
  contents = c.in-Ok.ensures.contents;
  reading = read_afresh g.F.FnMut c.args.self.now c.args.f c.args.pass.now _ c.load.ensures.visited;
  left = c.requires.some;
}

pub returns-in-Err-f-clause-looked : goal.returns-in-Err-f-clause-looked
returns-in-Err-f-clause-looked g c = Reading.looked c.loop-round.invariant.reading

pub returns-in-Err-f-clause-fault : goal.returns-in-Err-f-clause-fault
returns-in-Err-f-clause-fault g c =
    let called = called_on g.F.FnMut c.args.self.now c.loop-round.f c.f.new.self _ _ _ (Err c.in-Err-f.fault) (record { shown = _; shows = refl; called = c.f.ensures }) c.loop-round.invariant.contents c.in-Err-f.is in
    answered g.F.FnMut c.args.self.now c.args.f c.args.pass.now _ _ _ _ _ _ _ c.loop-round.invariant.reading c.loop-round.invariant.left called

pub returns-in-Ok-None-clause-ok : goal.returns-in-Ok-None-clause-ok
returns-in-Ok-None-clause-ok g c =
    let s = c.loop-round.invariant.reading in
    let called = called_on g.F.FnMut c.args.self.now c.loop-round.f c.f.new.self _ _ _ (Ok None) (record { shown = _; shows = refl; called = c.f.ensures }) c.loop-round.invariant.contents (c.in-Ok-None.is ∙ ap Ok c.in-Ok-None.field-0-is) in
    (Reading.looked s, c.seen-base.ensures.stamp, answered g.F.FnMut c.args.self.now c.args.f c.args.pass.now _ _ _ _ _ _ _ s c.loop-round.invariant.left called)

pub returns-in-Committed-clause-ok : goal.returns-in-Committed-clause-ok
returns-in-Committed-clause-ok g c =
    let called = called_on g.F.FnMut c.args.self.now c.loop-round.f c.f.new.self _ _ _ (Ok (Some c.in-Ok-Some.next)) (record { shown = _; shows = refl; called = c.f.ensures }) c.loop-round.invariant.contents (c.in-Ok-Some.is ∙ ap Ok c.in-Ok-Some.field-0-is) in
    (committed g.F.FnMut c.args.self.now c.args.f c.args.pass.now _ _ _ _ _ _ _ _ c.loop-round.invariant.reading c.loop-round.invariant.left called (g.met.V.Replaced.entry_is _) c.in-Committed.ensures.offered, c.seen.ensures.stamp)

pub returns-in-Full-clause-looked : goal.returns-in-Full-clause-looked
returns-in-Full-clause-looked g c = looked_looked _ _ _ (Reading.looked c.loop-round.invariant.reading) (looked_visited _ _ c.in-Full.ensures.offered.0)

pub returns-in-Full-clause-fault : goal.returns-in-Full-clause-fault
returns-in-Full-clause-fault g c =
    let called = called_on g.F.FnMut c.args.self.now c.loop-round.f c.f.new.self _ _ _ (Ok (Some c.in-Ok-Some.next)) (record { shown = _; shows = refl; called = c.f.ensures }) c.loop-round.invariant.contents (c.in-Ok-Some.is ∙ ap Ok c.in-Ok-Some.field-0-is) in
    let full = c.in-Full.ensures.offered in
    let looked = looked_visited c.loop-round.pass c.offer.new.pass full.0 in
    let fronts : length (front_of c.offer.new.pass) ≡ length (front_of c.loop-round.pass) = ap length full.1 in
    let firsts : first_stamp_of c.offer.new.pass ≡ first_stamp_of c.loop-round.pass = ViewAdvances.first (Looked.advances looked) in
    let stamp = c.seen-base.ensures.stamp in
    let same : c.seen-base.result ≡ stamp_of c.offer.new.pass = omega (arith, fronts, firsts, stamp) in (
      same,
      same ∙ full.2,
      (
        c.in-Ok-Some.next,
        subst (λ e. Answered g.F.FnMut c.args.self.now c.args.f c.args.pass.now c.offer.new.pass c.args.tries e (Ok (Some c.in-Ok-Some.next))) (sym full.1)
            (answered g.F.FnMut c.args.self.now c.args.f c.args.pass.now _ _ c.offer.new.pass _ _ _ _ c.loop-round.invariant.reading c.loop-round.invariant.left called),
      ),
    )

pub returns-in-Memory-clause-looked : goal.returns-in-Memory-clause-looked
returns-in-Memory-clause-looked g c = looked_looked _ _ _ (Reading.looked c.loop-round.invariant.reading) (looked_visited _ _ c.in-Memory.ensures.offered)

pub returns-in-Lost-clause-looked : goal.returns-in-Lost-clause-looked
returns-in-Lost-clause-looked g c = looked_looked _ _ _ (Reading.looked c.loop-round.invariant.reading) (looked_visited _ _ c.in-Lost.ensures.offered.0)

pub returns-in-Lost-clause-fault : goal.returns-in-Lost-clause-fault
returns-in-Lost-clause-fault g c =
    let called = called_on g.F.FnMut c.args.self.now c.loop-round.f c.f.new.self _ _ _ (Ok (Some c.in-Ok-Some.next)) (record { shown = _; shows = refl; called = c.f.ensures }) c.loop-round.invariant.contents (c.in-Ok-Some.is ∙ ap Ok c.in-Ok-Some.field-0-is) in
    let lost = c.in-Lost.ensures.offered in
    let none = lost.2 in
    let left = c.loop-round.invariant.left in (
      subst (LosesEdit g.F.FnMut c.args.self.now c.args.f c.args.pass.now c.offer.new.pass c.args.tries) (sym c.seen-base.ensures.stamp)
          (lost_last g.F.FnMut c.args.self.now c.args.f c.args.pass.now _ _ _ _ _ _ _ c.loop-round.invariant.reading (omega arith) called lost.0 lost.1),
      c.seen-in-Lost.ensures.stamp,
    )

pub returns-in-Lost-clause-whole : goal.returns-in-Lost-clause-whole
returns-in-Lost-clause-whole g c whole =
    let called = called_on g.F.FnMut c.args.self.now c.loop-round.f c.f.new.self _ _ _ (Ok (Some c.in-Ok-Some.next)) (record { shown = _; shows = refl; called = c.f.ensures }) c.loop-round.invariant.contents (c.in-Ok-Some.is ∙ ap Ok c.in-Ok-Some.field-0-is) in
    let lost = c.in-Lost.ensures.offered in
    let none = lost.2 in
    let left = c.loop-round.invariant.left in
    let loses = lost_last g.F.FnMut c.args.self.now c.args.f c.args.pass.now _ c.loop-round.pass c.offer.new.pass _ c.args.tries _ _ c.loop-round.invariant.reading (omega arith) called lost.0 lost.1 in
    whole_never_loses g.F.FnMut c.args.self.now c.args.f c.args.pass.now _ _ _ c.requires.own c.offer.ensures.pass loses
    (looked_looked _ _ _ (Reading.looked c.loop-round.invariant.reading) (looked_visited _ _ lost.0)) whole

pub loop-round-preserved : goal.loop-round-preserved
loop-round-preserved g c =
    let called = called_on g.F.FnMut c.args.self.now c.loop-round.f c.f.new.self _ _ _ (Ok (Some c.in-Ok-Some.next)) (record { shown = _; shows = refl; called = c.f.ensures }) c.loop-round.invariant.contents (c.in-Ok-Some.is ∙ ap Ok c.in-Ok-Some.field-0-is) in
    let moved = c.in-Moved.ensures.offered in
    let some = moved.2 in
    record {
      callable = search of_calls;
      pass = search rules;
      contents = moved.3;
      reading = read_newer g.F.FnMut c.args.self.now c.args.f c.args.pass.now _ _ _ _ _ _ c.loop-round.invariant.reading called moved.0 moved.1;
      left = omega arith;
    }
