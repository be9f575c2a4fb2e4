use Rattle.std.proofs.alloc.Global.TheSendSync as global
use Rattle.std.proofs.sync.atomic.AtomicU64.TheSendSync as word
use Rattle.stabby_index.proofs.Sending.{of_index, index_sync}
use Rattle.index_bench.proofs.readers.two_readers.Goals as goal

pub join-first-requires-send-F : goal.join-first-requires-send-F
join-first-requires-send-F g c κs within = let q = c.type_bounds.sync-H in search (of_index, index_sync, word.the_sync, global.the_send, global.the_sync) depth 20

pub join-first-requires-send-A : goal.join-first-requires-send-A
join-first-requires-send-A g c κs within = search of_index depth 20
