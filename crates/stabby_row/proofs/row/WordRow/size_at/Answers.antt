use Rattle.std.proofs.Common.{rules, arith}
use Rattle.stabby_row.proofs.StepsKeepRule.{sizes}
use Rattle.stabby_row.proofs.WalkLemmas.{in_words}
use Rattle.stabby_row.proofs.row.WordRow.size_at.Goals as goal

pub load-requires : goal.load-requires
load-requires c = let r = c.requires.seat.1 in let s = c.requires.at in let h = s.here in let i = s.in_row in let b = i.high in (search rules, in_words _ _ _ c.requires.seat.0 r (omega arith), sizes _ _ _ _ _)

pub returns-clause-size : goal.returns-clause-size
returns-clause-size c = λ done todo x e is. c.load.ensures.2.1 done todo x e (omega arith)
