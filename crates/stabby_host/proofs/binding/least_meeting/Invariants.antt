use Rattle.std.proofs.Common.{◌≡◌, ◌<◌, ℕ, slice_get, Some}
use Rattle.stabby_host.specs.Plugins.{Meets}
use Rattle.stabby_host.proofs.binding.least_meeting.Given as goal

abbrev pub invariant-loop-plugin : goal.invariant-loop-plugin
invariant-loop-plugin g l = (l.number ≡ l.plugin-index)
    × ((j : ℕ) (p : _) → j < l.number → slice_get l.plugins j ≡ Some p → ¬ Meets g.U.Any.type_id g.U.Any.type_report l.need p)
