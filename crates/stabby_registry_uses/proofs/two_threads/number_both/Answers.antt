use Rattle.std.proofs.Common.{rules}
use denote.Param.Send.{param_send}
use Rattle.stabby_registry.proofs.Joining.{number_stays}
use Rattle.stabby_registry_uses.proofs.Numbers.{one_table}
use Rattle.stabby_registry_uses.proofs.Sending.{caller_send}
use Rattle.stabby_registry_uses.proofs.two_threads.number_both.Lts as lts
use Rattle.stabby_registry_uses.proofs.two_threads.number_both.Goals as goal

pub join-mine-requires-send-F : goal.join-mine-requires-send-F
join-mine-requires-send-F g c κs within = param_send 1 (lts.arg-4-1 g.row.H g.H.laws g.H.Threads-dict g.H.Wait-dict κs) (caller_send _ _ _ _ _ _ g.row.H c.type_bounds.sync-H)

pub returns-clause-first : goal.returns-clause-first
returns-clause-first g c = search (rules, number_stays)

pub returns-clause-second : goal.returns-clause-second
returns-clause-second g c = search (rules, number_stays)

pub returns-clause-one_table : goal.returns-clause-one_table
returns-clause-one_table g c =
    one_table _ c.args.first.now c.args.second.now c.in_ok-first.first c.in_ok-second.second (returns-clause-first g c) (returns-clause-second g c)
