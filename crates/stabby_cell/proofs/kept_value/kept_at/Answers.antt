use Rattle.std.proofs.Common.{arith, refl}
use Rattle.stabby_cell.specs.Passes.{front_of, entries_before}
use Rattle.stabby_cell.specs.Turns.{cell_of, pass_of}
use Rattle.stabby_cell.proofs.SharedLemmas.{outside, older_value}
use Rattle.stabby_cell.proofs.kept_value.kept_at.Goals as goal

pub returns-in-None-clause-answer : goal.returns-in-None-clause-answer
returns-in-None-clause-answer g c =
    (c.oldest.ensures.stamp, c.stamp.ensures.stamp, outside _ _ _ _ _ _ c.oldest.ensures.stamp c.stamp.ensures.stamp (λ k. let none = c.in-None.ensures.kept.1 k in absurd (cc none)))

pub returns-in-Ok-clause-answer : goal.returns-in-Ok-clause-answer
returns-in-Ok-clause-answer g c =
    let kept = c.in-Some.ensures.kept.0 refl in
    let first = kept.0 in
    let last = kept.1 in
    let near = kept.2 in
    (omega arith, last, older_value (cell_of c.args.turn.now) (entries_before (cell_of c.args.turn.now) (front_of (pass_of c.args.turn.now)) c.args.stamp) c.in-Some.version.now c.in-Ok.value c.in-Ok.ensures.ok c.in-Some.ensures.version)
