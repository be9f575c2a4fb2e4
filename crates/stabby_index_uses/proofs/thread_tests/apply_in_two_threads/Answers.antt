use Rattle.std.proofs.alloc.Global.TheSendSync as global
use Rattle.std.below.std_heap.proofs.GlobalAllocator.TheSendSync as blocks
use Rattle.std.proofs.vec.Vec.TheSendSync as list
use Rattle.std.proofs.option.Option.TheSendSync as option
use Rattle.stabby_index.proofs.Sending.{of_index, index_sync}
use Rattle.stabby_index_uses.proofs.thread_tests.apply_in_two_threads.Goals as goal

pub join-first-requires-send-F : goal.join-first-requires-send-F
join-first-requires-send-F g c κs within = let q = c.type_bounds.sync-H in search (of_index, index_sync, blocks.the_frees, list.the_send, option.the_send, global.the_send, global.the_sync) depth 20

pub join-first-requires-send-A : goal.join-first-requires-send-A
join-first-requires-send-A g c κs within = search (of_index, blocks.the_frees, list.the_send, option.the_send, global.the_send) depth 20
