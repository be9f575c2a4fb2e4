use Rattle.stabby_host.proofs.Endings.{leaves_spent}
use Rattle.stabby_host.proofs.unload.end_at.Goals as goal

pub returns-in-Err : goal.returns-in-Err
returns-in-Err g c =
    let e = c.in-Err.ensures in
    let taken = c.take_at-handle in
    leaves_spent c.args.plugins.now.items taken.new.plugins.items c.keep_at.new.plugins.items c.args.at taken.result c.in-Err.spent e.exactly.0
    taken.ensures.plugin taken.ensures.ended c.keep_at.ensures e.exactly.1 e.spent e.added e.sole
