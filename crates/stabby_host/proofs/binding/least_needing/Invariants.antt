use Rattle.std.proofs.Common.{◌≡◌, ◌<◌, ℕ, slice_get, Some}
use Rattle.stabby_host.specs.Plugins.{IsBoundTo}
use Rattle.stabby_host.proofs.binding.least_needing.Given as goal

abbrev pub invariant-loop-plugin : goal.invariant-loop-plugin
invariant-loop-plugin g l = (l.i ≡ l.plugin-index)
    × ((j : ℕ) (p : _) → j < l.i → slice_get l.plugins j ≡ Some p → IsBoundTo l.number p → j ≡ l.number)
