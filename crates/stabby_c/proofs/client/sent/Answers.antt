use denote.Param.Send.{sendable}
use Rattle.stabby_c.proofs.Sending.{client_send}
use Rattle.stabby_c.proofs.client.sent.Goals as goal

pub crosses-requires-send-T : goal.crosses-requires-send-T
crosses-requires-send-T c κs = search (sendable, client_send) depth 20
