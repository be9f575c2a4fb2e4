use Rattle.std.proofs.Common.{rules, arith}
use Rattle.stabby_row.proofs.StepsKeepRule.{reads}
use Rattle.stabby_row.proofs.WalkLemmas.{in_words}
use Rattle.stabby_row.proofs.row.WordRow.word_at.Goals as goal

pub load-requires : goal.load-requires
load-requires c = let r = c.requires.seat.1 in let s = c.requires.at.0 in let long = c.requires.at.1 in let h = s.here in let i = s.in_row in let b = i.high in let l = c.requires.inside in
    (search rules, in_words _ _ _ c.requires.seat.0 r (omega arith), reads _ _ _ _ _)

pub returns-clause-word : goal.returns-clause-word
returns-clause-word c = λ done todo x e is l. c.load.ensures.2.1 done todo x c.args.i e (omega arith) l
