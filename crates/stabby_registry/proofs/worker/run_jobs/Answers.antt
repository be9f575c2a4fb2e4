use denote.Param.Send.{sendable, param_sync}
use Rattle.std.proofs.alloc.Global.TheSendSync as global
use Rattle.stabby_word_table.proofs.table.WordTable.TheSendSync as table
use Rattle.stabby_registry.proofs.Sending.{job_send, registry_sync}
use Rattle.stabby_registry.proofs.worker.run_jobs.Lts as lts
use Rattle.stabby_registry.proofs.worker.run_jobs.Goals as goal

pub for_each_mut-requires-send-T : goal.for_each_mut-requires-send-T
for_each_mut-requires-send-T g c κs within = search (sendable, job_send) depth 20

pub for_each_mut-requires-sync-F : goal.for_each_mut-requires-sync-F
for_each_mut-requires-sync-F g c κs within =
    let p = c.type_bounds.sync-G in
    let q = c.type_bounds.sync-H in
    param_sync 2 (lts.arg-2-2 g.row.G g.row.H g.G.laws g.H.laws g.G.Gate-dict g.H.Threads-dict g.H.Wait-dict κs) (search (sendable, registry_sync, table.the_sync, global.the_sync) depth 20)
