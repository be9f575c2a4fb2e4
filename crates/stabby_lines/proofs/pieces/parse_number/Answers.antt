use Rattle.std.proofs.Common.{arith, take, ◌≡◌, refl, sym}
use Rattle.std.proofs.lemmas.Bool.Decides.{nat_tests}
use Rattle.std.proofs.lemmas.Grind.{common_steps}
use Rattle.stabby_intern.proofs.Words.{none_at, digits_step}
use Rattle.stabby_lines.proofs.pieces.parse_number.Goals as goal

pub returns-in_default-clause-none : goal.returns-in_default-clause-none
returns-in_default-clause-none c none word spells =
    none_at c.args.digits.now c.loop-b.b-index c.loop-b.value c.loop-b-test.true c.loop-b.invariant.value (c.with_digit.ensures.none (rw c.in_default.is refl)) word spells

pub loop-b-preserved : goal.loop-b-preserved
loop-b-preserved c =
    let more = digits_step c.args.digits.now c.loop-b.b-index c.loop-b.value c.in-Some.next c.loop-b-test.true (c.with_digit.ensures.digit (rw c.in-Some.is refl)) c.loop-b.invariant.digits c.loop-b.invariant.value c.in-Some.ensures.value in
    record { digits = more.digits; value = more.value; fits = c.in-Some.ensures.fits }

pub returns-clause-some : goal.returns-clause-some
returns-clause-some c =
    let all : take c.loop-b.b-index c.args.digits.now ≡ c.args.digits.now = grind (arith, common_steps) in
    record { digits = (grind (arith, nat_tests, c.if-is_empty.ensures), rw all at c.loop-b.invariant.digits); value = sym (rw all at c.loop-b.invariant.value); fits = c.loop-b.invariant.fits }
