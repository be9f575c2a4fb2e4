use Rattle.std.proofs.Common.{rules}
use Rattle.stabby_row.proofs.StepsKeepRule.{notes}
use Rattle.stabby_row.proofs.row.WordRow.note.Goals as goal

pub compare_exchange-requires : goal.compare_exchange-requires
compare_exchange-requires c = (search rules, search rules, notes _ _ _ _ _)
