use Rattle.stabby_tables.proofs.Ranks.{rank_by_entries, same_ranks, same_tables}
use Rattle.stabby_tables.proofs.laws.ranks_are_places.Goals as goal

pub returns : goal.returns
returns c = record { rank = rank_by_entries; same_ranks = same_ranks; same_tables = same_tables }
