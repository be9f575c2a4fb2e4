use Rattle.std.proofs.Common.{take}
use Rattle.plugin_host.specs.Answers.{AreAnswered}
use Rattle.plugin_host.proofs.program.play.Given as goal

-- the text so far answers the calls so far
abbrev pub invariant-loop-call : goal.invariant-loop-call
invariant-loop-call g l = AreAnswered (take l.call-index l.calls) l.text.items
