use Rattle.std.proofs.Common.{rules, ◌∙◌}
use Rattle.stabby_vec.proofs.DrainLemmas.{stopped_after_read}
use Rattle.stabby_vec_uses.proofs.drained.take_one.Goals as goal

pub returns : goal.returns
returns g c =
    let read = c.next-first.ensures in
    let without = c.stop.ensures ∙ stopped_after_read c.args.list.now c.args.from c.args.to _ _ c.next-first.result c.drain-drain.ensures.begun read.same_range read.first c.requires.start_lt_end c.requires.in_bounds in
    search (rules, without)
