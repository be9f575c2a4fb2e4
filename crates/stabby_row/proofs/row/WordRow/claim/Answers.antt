use Rattle.std.proofs.Common.{rules}
use Rattle.stabby_row.proofs.StepsKeepRule.{claims}
use Rattle.stabby_row.proofs.row.WordRow.claim.Goals as goal

pub fetch_add-requires : goal.fetch_add-requires
fetch_add-requires c = let r = c.requires.seat.1 in (search rules, search rules, claims _ _ _ _ _ r.heavy c.requires.unaware c.requires.small)
