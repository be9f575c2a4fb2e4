use Rattle.std.proofs.Common.{rules, arith}
use native.Mathlib.Decide.{ℕ_discrete}
use mathlib.Core.Logic.{dite}
use Rattle.stabby_row.proofs.StepsKeepRule.{passes}
use Rattle.stabby_row.proofs.WalkLemmas.{at_end, in_words, covered, ended}
use Rattle.stabby_row.proofs.row.WordRow.link_past.Goals as goal

pub load-requires : goal.load-requires
load-requires c = let r = c.requires.seat.1 in (search rules, in_words _ _ _ c.requires.seat.0 r c.requires.at.0.in_row, passes _ _ _ _ _ r.heavy (at_end _ _ _ c.requires.at.0 c.requires.at.1))

pub returns-clause-same : goal.returns-clause-same
returns-clause-same c = let e = c.load.ensures in let r = c.requires.seat.1 in (
  (e.0, e.1),
  dite (ℕ_discrete c.load.result 0)
      (λ z. (ended c.args.seat.now c.load.new.seat c.args.n c.args.at c.load.result r e.0 (e.2.0 z)).0)
      (λ nz. (covered c.args.seat.now c.load.new.seat _ _ _ r e.0 c.requires.at.0 c.requires.at.1 (e.2.1 (omega arith))).0),
)

pub returns-clause-end : goal.returns-clause-end
returns-clause-end c = let e = c.load.ensures in λ z. (ended c.args.seat.now c.load.new.seat c.args.n c.args.at c.load.result c.requires.seat.1 e.0 (e.2.0 z)).1

pub returns-clause-node : goal.returns-clause-node
returns-clause-node c = let e = c.load.ensures in λ z. let t = covered c.args.seat.now c.load.new.seat _ _ _ c.requires.seat.1 e.0 c.requires.at.0 c.requires.at.1 (e.2.1 z) in (t.1, t.2, t.3, t.4)
