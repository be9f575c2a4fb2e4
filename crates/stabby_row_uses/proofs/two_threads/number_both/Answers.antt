use Rattle.std.proofs.Common.{rules}
use Rattle.stabby_row_uses.proofs.Numbers.{stays, one_table, one_number}
use Rattle.stabby_row_uses.proofs.two_threads.number_both.Goals as goal

pub returns-clause-first : goal.returns-clause-first
returns-clause-first g c = search (rules, stays)

pub returns-clause-second : goal.returns-clause-second
returns-clause-second g c = search (rules, stays)

pub returns-clause-same : goal.returns-clause-same
returns-clause-same g c = (
  λ same. one_table _ c.args.first.now c.args.second.now c.in_ok-first.first c.in_ok-second.second (returns-clause-first g c) (returns-clause-second g c) same,
  λ same. one_number _ c.args.first.now c.args.second.now c.in_ok-first.first c.in_ok-second.second c.join.ensures.distinct (returns-clause-first g c) (returns-clause-second g c) same,
)
