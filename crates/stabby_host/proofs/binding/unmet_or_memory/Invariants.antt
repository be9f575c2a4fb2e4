use Rattle.std.proofs.Common.{◌≡◌}
use Rattle.stabby_host.specs.Plugins.{AreMet}
use Rattle.stabby_host.proofs.binding.unmet_or_memory.Given as goal

abbrev pub invariant-loop-need : goal.invariant-loop-need
invariant-loop-need g l = (l.place ≡ l.need-index)
    × AreMet g.U.Any.type_id g.U.Any.type_report l.needs l.plugins l.need-index
