use Rattle.std.proofs.Common.{subst, ℕ, arith}
use Rattle.stabby_cell.specs.Telling.{TookOrMissed}
use Rattle.stabby_cell.proofs.StepsKeepRule.{take_step, take_whole}
use Rattle.stabby_cell.proofs.cell.TurnCell.seize.Goals as goal

pub compare_exchange-requires : goal.compare_exchange-requires
compare_exchange-requires g c =
    let one = c.args.self.now.sized in (
      c.requires.own.0,
      omega arith,
      take_whole g.V.Chronicle.next _ _ _ _ _ _ _ _ _ (omega arith) c.requires.own.1.1 c.requires.own.1.0 (omega arith) (omega arith),
    )

pub fetch_or-requires : goal.fetch_or-requires
fetch_or-requires g c =
    let one = c.args.self.now.sized in (
      c.requires.own.0,
      omega arith,
      take_step g.V.Chronicle.next _ _ _ _ _ _ _ (omega arith) c.requires.own.1.1 c.requires.own.1.0,
    )

pub returns-then-weight-clause-told : goal.returns-then-weight-clause-told
returns-then-weight-clause-told g c =
    let t = c.compare_exchange.ensures.2 in
    subst (λ (k : ℕ). TookOrMissed g.V.Chronicle.next c.args.seat.now.me k c.compare_exchange.new.seat.me) t.0 t.1
