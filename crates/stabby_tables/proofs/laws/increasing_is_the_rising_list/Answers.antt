use Rattle.std.proofs.Common.{sym, ◌∙◌}
use Rattle.stabby_tables.specs.Lists.{increasing}
use Rattle.stabby_tables.proofs.Growing.{has_increasing}
use Rattle.stabby_tables.proofs.Sorted.{rising_increasing, rising_unique}
use Rattle.stabby_tables.proofs.laws.increasing_is_the_rising_list.Goals as goal

pub returns : goal.returns
returns c = record {
  rising = rising_increasing;
  unique = λ f s up members. rising_unique s (increasing f) up (rising_increasing f) (λ t. members t ∙ sym (has_increasing f t));
}
