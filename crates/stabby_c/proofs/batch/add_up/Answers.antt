use Rattle.std.proofs.Common.{arith, refl, get_or}
use Rattle.stabby_c.proofs.Batching.{sum_within}
use Rattle.stabby_c.proofs.batch.add_up.Goals as goal

pub returns-then-left-length : goal.returns-then-left-length
returns-then-left-length c =
    let more = sum_within c.args.lengths.now c.loop-length.length-index (get_or c.args.lengths.now c.loop-length.length-index 0) c.loop-length-test.true refl in
    (λ t. absurd (cc), λ e. absurd (omega (arith, more, c.loop-length.invariant, c.if-left-length.true, e)))
