use Rattle.std.proofs.Common.{arith}
use Rattle.stabby_symbol.proofs.WordSpans.{one_more, none_more, all_spans, ends_there}
use Rattle.stabby_symbol.proofs.words.word_spans.Goals as goal

pub loop-at-preserved-in-Continue-1 : goal.loop-at-preserved-in-Continue-1
loop-at-preserved-in-Continue-1 c =
    rw c.in_ok-push.ensures.items
    (one_more c.args.bytes.now c.loop-at.at c.word_start-from.result c.word_end-at.result c.loop-at.spans.items c.loop-at.invariant
    c.word_start-from.ensures.within.0 c.if-from-at.true c.word_end-at.ensures.within.1 c.word_start-from.ensures.before
    c.word_end-at.ensures.before c.word_end-at.ensures.here)

pub loop-at-preserved : goal.loop-at-preserved
loop-at-preserved c =
    none_more c.args.bytes.now c.loop-at.at c.word_end-at.result c.loop-at.spans.items c.loop-at.invariant
    (ends_there c.args.bytes.now c.word_start-from.result c.word_end-at.result c.word_end-at.ensures.within.0 c.word_end-at.ensures.within.1 c.if-from-at.false
    c.word_start-from.ensures.here c.word_end-at.ensures.here)
    (λ i p q. c.word_start-from.ensures.before i p (omega arith))

pub returns-clause-spans : goal.returns-clause-spans
returns-clause-spans c = all_spans c.args.bytes.now c.loop-at.at c.loop-at.spans.items c.loop-at.invariant c.loop-at-test.false
