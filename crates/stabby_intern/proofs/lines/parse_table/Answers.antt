use Rattle.std.proofs.Common.{arith, length, take, ◌≡◌, ◌<◌, refl, ap, ◌∙◌}
use Rattle.std.proofs.lemmas.Bool.Decides.{nat_tests}
use Rattle.std.proofs.lemmas.Grind.{common_steps}
use Rattle.stabby_intern.proofs.Scanning.{nothing_scanned, word_ends, word_goes_on, space_too_many, no_digit, ends_in_space, line_read}
use Rattle.stabby_intern.proofs.lines.parse_table.Goals as goal
use Rattle.stabby_intern.proofs.lines.parse_table.Goals.{in-None+else-b-ne32+else-not-begun+in_ok-push-in-None, in-Some}

pub loop-b-init : goal.loop-b-init
loop-b-init c = nothing_scanned _ c.clear.ensures.items

pub returns-then-b-ne32-clause-none : goal.returns-then-b-ne32-clause-none
returns-then-b-ne32-clause-none c none = no_digit c.args.line.now c.loop-b.b-index c.loop-b.words.items c.loop-b.value c.loop-b.begun c.loop-b-test.true c.if-b-ne32.true (c.with_digit.ensures.none (rw c.in-None.is refl)) c.loop-b.invariant

pub returns-then-not-begun-clause-none : goal.returns-then-not-begun-clause-none
returns-then-not-begun-clause-none c none = space_too_many c.args.line.now c.loop-b.b-index c.loop-b.words.items c.loop-b.value c.loop-b-test.true c.if-b-ne32.false (rw c.if-not-begun.true at c.loop-b.invariant)

pub loop-b-preserved : goal.loop-b-preserved
loop-b-preserved c = elim c.match-with_digit.branch [
  | in-None+else-b-ne32+else-not-begun+in_ok-push-in-None w ↦
      rw (w.value-is, w.begun-is) (word_ends c.args.line.now c.loop-b.b-index c.loop-b.words.items _ c.loop-b.value c.loop-b-test.true w.if-b-ne32.false
      (ap (λ v. v.items) w.words-is ∙ w.in_ok-push-in-None.ensures.items) (rw w.if-not-begun.false at c.loop-b.invariant))
  | in-Some w ↦
      rw (w.value-is, w.begun-is, ap (λ v. v.items) w.words-is) (word_goes_on c.args.line.now c.loop-b.b-index c.loop-b.words.items c.loop-b.value w.in-Some.next c.loop-b.begun c.loop-b-test.true
      (w.in-Some.ensures.digit refl) w.in-Some.ensures.value w.in-Some.ensures.fits c.loop-b.invariant)
]

pub returns-then-not-begun-2-clause-none : goal.returns-then-not-begun-2-clause-none
returns-then-not-begun-2-clause-none c none =
    let all : take c.loop-b.b-index c.args.line.now ≡ c.args.line.now = grind (arith, common_steps) in
    let some : 0 < length c.args.line.now = grind (arith, nat_tests, c.is_empty.ensures, c.if-is_empty.false) in
    ends_in_space c.args.line.now c.loop-b.words.items c.loop-b.value some (rw (all, c.if-not-begun-2.true) at c.loop-b.invariant)

pub returns-clause-table : goal.returns-clause-table
returns-clause-table c =
    let all : take c.loop-b.b-index c.args.line.now ≡ c.args.line.now = grind (arith, common_steps) in
    let some : 0 < length c.args.line.now = grind (arith, nat_tests, c.is_empty.ensures, c.if-is_empty.false) in
    rw (c.in_ok-from_words.ensures.ok, c.deref.ensures.value) (line_read c.args.line.now c.loop-b.words.items _ c.loop-b.value some c.in_ok-push.ensures.items (rw (all, c.if-not-begun-2.false) at c.loop-b.invariant))
