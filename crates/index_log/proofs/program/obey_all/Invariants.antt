use Rattle.std.proofs.Common.{◌≡◌, ◌≤◌, ◌+◌, ◌++◌, ℕ, List, length}
use Rattle.stabby_tables.specs.Pieces.{lines_of}
use Rattle.stabby_intern.specs.Runs.{sink_of}
use Rattle.index_log.specs.Sessions.{state_of}
use Rattle.index_log.specs.Runs.{ObeyedTo}
use Rattle.index_log.proofs.program.obey_all.Given as goal

-- the lines so far were obeyed
abbrev pub invariant-loop-rest : goal.invariant-loop-rest
invariant-loop-rest g l = (done : List (List ℕ)) × (lines_of l.text ≡ done ++ lines_of l.rest) × (l.number ≡ length done + 1) × (length done + length l.rest ≤ length l.text)
    × ObeyedTo (state_of l.fn.session) (state_of l.session) done (sink_of g.K.Sink l.fn.out l.out)

abbrev pub decreases-loop-rest : goal.decreases-loop-rest
decreases-loop-rest g l = length l.rest
