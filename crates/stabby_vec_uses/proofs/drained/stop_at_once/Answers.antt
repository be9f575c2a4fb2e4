use Rattle.std.proofs.Common.{arith}
use Rattle.stabby_vec.proofs.DrainLemmas.{put_back, remove_nothing}
use Rattle.stabby_vec_uses.proofs.drained.stop_at_once.Goals as goal

pub returns : goal.returns
returns g c =
    let items = c.args.list.now.items in
    let back = put_back items c.args.from c.args.from c.args.to (omega arith) c.requires.start_le_end c.requires.in_bounds in
    let whole = remove_nothing items c.args.from in
    grind (arith, back, whole)
