use Rattle.std.proofs.Common.{◌≡◌, map, take}
use Rattle.stabby_tables.specs.Lists.{entry_place}
use Rattle.stabby_registry.proofs.ranking.ranks.Given as goal

abbrev pub invariant-loop-number : goal.invariant-loop-number
invariant-loop-number l = l.ranks.items ≡ map (entry_place l.entries) (take l.number-index l.numbers)
