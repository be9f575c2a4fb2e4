use Rattle.std.proofs.Common.{rules, arith, ap}
use native.Mathlib.Decide.{ℕ_discrete}
use mathlib.Core.Logic.{dite}
use Rattle.stabby_row.specs.declared.view.Claim.{Claim}
use Rattle.stabby_row.proofs.StepsKeepRule.{links}
use Rattle.stabby_row.proofs.WalkLemmas.{at_end, in_words, lost, hung}
use Rattle.stabby_row.proofs.row.WordRow.hang.Goals as goal

pub compare_exchange-requires : goal.compare_exchange-requires
compare_exchange-requires c =
    let r = c.requires.seat.1 in
    let claim = c.requires.claim in
    let start = ap (λ (z : Claim). z.start) claim in (
      search rules,
      in_words _ _ _ c.requires.seat.0 r c.requires.at.0.in_row,
      links _ _ _ _ _ _ c.args.table.now (omega arith) (at_end _ _ _ c.requires.at.0 c.requires.at.1) r.heavy (ap (λ (z : Claim). z.written) claim) (ap (λ (z : Claim). z.size) claim) c.requires.absent,
    )

pub returns-clause-same : goal.returns-clause-same
returns-clause-same c = let e = c.compare_exchange.ensures in let r = c.requires.seat.1 in (
  (e.0, e.1),
  dite (ℕ_discrete c.compare_exchange.result 0)
      (λ z. let t = e.2.0 z in (hung c.args.seat.now c.compare_exchange.new.seat c.args.n c.args.at c.compare_exchange.result r e.0 c.args.start c.args.table.now c.requires.claim t.0 t.1 t.2).0)
      (λ nz. (lost c.args.seat.now c.compare_exchange.new.seat c.args.n c.args.at c.compare_exchange.result r e.0 c.requires.at.1 (e.2.1 (omega arith))).0),
)

pub returns-clause-won : goal.returns-clause-won
returns-clause-won c = let e = c.compare_exchange.ensures in let r = c.requires.seat.1 in
    λ z. let t = e.2.0 z in let k = hung c.args.seat.now c.compare_exchange.new.seat c.args.n c.args.at c.compare_exchange.result r e.0 c.args.start c.args.table.now c.requires.claim t.0 t.1 t.2 in (k.1, k.2)

pub returns-clause-lost : goal.returns-clause-lost
returns-clause-lost c = let e = c.compare_exchange.ensures in let r = c.requires.seat.1 in
    λ l. let k = lost c.args.seat.now c.compare_exchange.new.seat c.args.n c.args.at c.compare_exchange.result r e.0 c.requires.at.1 (e.2.1 l) in (k.1, k.2, k.3, k.4)
