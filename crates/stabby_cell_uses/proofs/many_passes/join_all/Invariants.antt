use Rattle.std.proofs.Common.{length}
use Rattle.stabby_cell_uses.proofs.JoinLemmas.{JoinedSoFar}
use Rattle.stabby_cell_uses.proofs.many_passes.join_all.Given as goal

abbrev pub invariant-loop-part : goal.invariant-loop-part
invariant-loop-part l = JoinedSoFar l.cell l.initial.parts.items l.parts.items l.initial.last l.last

abbrev pub decreases-loop-part : goal.decreases-loop-part
decreases-loop-part l = length l.parts.items
