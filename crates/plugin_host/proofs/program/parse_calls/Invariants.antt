use Rattle.std.proofs.Common.{◌≡◌, ◌≤◌, ◌+◌, ◌++◌, ℕ, List, length}
use Rattle.stabby_tables.specs.Pieces.{lines_of}
use Rattle.plugin_host.specs.Runs.{AreCalls}
use Rattle.plugin_host.proofs.program.parse_calls.Given as goal

-- the lines so far are the calls so far
abbrev pub invariant-loop-rest : goal.invariant-loop-rest
invariant-loop-rest l = (done : List (List ℕ)) × (lines_of l.text ≡ done ++ lines_of l.rest) × (l.number ≡ length done + 1) × (length done + length l.rest ≤ length l.text)
    × AreCalls done l.calls.items

abbrev pub decreases-loop-rest : goal.decreases-loop-rest
decreases-loop-rest l = length l.rest
