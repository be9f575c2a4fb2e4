-- A client goes to other threads, and its registry is shared by them.
use denote.Param.Send.{IsSend, IsSync}
use Rattle.std.below.std_heap.proofs.GlobalAllocator.TheSendSync as blocks
use Rattle.std.proofs.sync.Arc.TheSendSync as arc
use Rattle.stabby_registry.proofs.Sending.{sending}
use Rattle.stabby_c.specs.contracts.client.Home as Home
use Rattle.stabby_c.specs.contracts.client.Client as Client

home_send : IsSend Home.the_row
home_send = search sending depth 20

home_sync : IsSync Home.the_row
home_sync = search sending depth 20

ruleset of_client = (sending, blocks.the_frees, home_send, home_sync, arc.the_send)

pub client_send : IsSend Client.the_row
client_send = search of_client depth 20
