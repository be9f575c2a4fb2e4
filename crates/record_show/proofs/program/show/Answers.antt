use Rattle.stabby_record.proofs.Begun.{never_differs}
use Rattle.record_show.proofs.program.show.Goals as goal

pub unreachable-requires-in-Err-Differs : goal.unreachable-requires-in-Err-Differs
unreachable-requires-in-Err-Differs c =
    let m = c.in-Err-Differs.ensures.cause in
    never_differs c.in-Ok.schema c.args.bytes.now _ c.in-Ok.ensures.ok.1 (rw c.in-Err-Differs.field-0-is at m)
