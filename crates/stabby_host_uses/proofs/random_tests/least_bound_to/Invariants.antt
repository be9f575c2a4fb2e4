use Rattle.std.proofs.Common.{◌≡◌, ◌≤◌}
use Rattle.stabby_host_uses.proofs.random_tests.least_bound_to.Given as goal

abbrev pub invariant-loop-plugin : goal.invariant-loop-plugin
invariant-loop-plugin l = l.number ≡ l.plugin-index
