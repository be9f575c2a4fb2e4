use denote.Param.Send.{param_send}
use Rattle.row_bench.proofs.Sending.{share_send}
use Rattle.row_bench.proofs.trees.insert_in_two.Lts as lts
use Rattle.row_bench.proofs.trees.insert_in_two.Goals as goal

pub join-one-requires-send-F : goal.join-one-requires-send-F
join-one-requires-send-F g c κs within = param_send 1 (lts.arg-1-1 g.row.H g.H.laws g.H.Threads-dict g.H.Wait-dict κs) (share_send _ _ _ _ _ _ _ _ g.row.H c.type_bounds.sync-H)
