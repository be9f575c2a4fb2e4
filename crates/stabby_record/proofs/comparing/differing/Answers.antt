use Rattle.std.proofs.Common.{◌+◌, length, arith, sym, ◌∙◌}
use Rattle.stabby_record.proofs.Heads.{both_ended, one_side}
use Rattle.stabby_record.proofs.comparing.differing.Goals as goal

pub returns : goal.returns
returns c =
    let s = one_side (length c.args.piece.now) (length c.args.bytes.now) c.loop-index.index (omega arith) in
    sym (c.loop-index.invariant ∙ both_ended c.args.piece.now c.args.bytes.now c.loop-index.index (c.args.at + c.loop-index.index) s)
