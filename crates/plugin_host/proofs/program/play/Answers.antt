use Rattle.plugin_host.proofs.Answering.{answered_none, answered_more}
use Rattle.plugin_host.proofs.program.play.Goals as goal

pub loop-call-init : goal.loop-call-init
loop-call-init g c = rw c.new-text.ensures.items (answered_none c.args.calls.now)

pub loop-call-preserved : goal.loop-call-preserved
loop-call-preserved g c = answered_more c.args.calls.now c.loop-call.call-index _ _ _ _ c.loop-call-test.true c.loop-call.invariant c.in_ok-answer.ensures c.in_ok-put_answer.ensures
