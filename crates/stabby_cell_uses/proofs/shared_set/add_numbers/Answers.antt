use Rattle.std.proofs.Common.{◌∙◌}
use Rattle.stabby_cell.proofs.RecordLemmas.{prefix_trans}
use Rattle.stabby_cell_uses.proofs.FillLemmas.{added_by, front_added, weight_added}
use Rattle.stabby_cell_uses.proofs.shared_set.add_numbers.Goals as goal

pub loop-round-preserved : goal.loop-round-preserved
loop-round-preserved g c =
    let was = c.loop-round.invariant in
    let ok = c.add_number.ensures.ok in
    let looked = c.add_number.ensures.looked in
    record {
      pass = c.add_number.ensures.pass;
      added = added_by c.args.set.now _ _ _ c.add_number.result ok looked was.added;
      weight = weight_added c.args.set.now _ _ _ c.add_number.result ok looked ∙ was.weight;
      front = prefix_trans _ _ _ was.front (front_added c.args.set.now _ _ _ c.add_number.result ok looked);
    }
