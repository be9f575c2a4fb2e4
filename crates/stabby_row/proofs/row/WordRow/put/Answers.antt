use Rattle.std.proofs.Common.{rules}
use Rattle.stabby_row.proofs.StepsKeepRule.{stores}
use Rattle.stabby_row.proofs.WalkLemmas.{in_words}
use Rattle.stabby_row.proofs.row.WordRow.put.Goals as goal

pub store-requires : goal.store-requires
store-requires c = let r = c.requires.seat.1 in (search rules, in_words _ _ _ c.requires.seat.0 r c.requires.inside.1, stores _ _ _ _ _ _ c.requires.at c.requires.inside.0)
