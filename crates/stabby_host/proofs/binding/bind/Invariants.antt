use Rattle.std.proofs.Common.{◌≡◌}
use Rattle.stabby_host.specs.Plugins.{BindsFirst}
use Rattle.stabby_host.proofs.binding.bind.Given as goal

abbrev pub invariant-loop-need : goal.invariant-loop-need
invariant-loop-need g l = (l.place ≡ l.need-index)
    × BindsFirst g.U.Any.type_id g.U.Any.type_report l.needs l.plugins l.need-index l.bound.items
