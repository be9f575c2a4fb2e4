use Rattle.std.proofs.Common.{◌++◌, ◌∙◌, sym}
use Rattle.stabby_symbol.proofs.PackedTexts.{bytes_more}
use Rattle.stabby_symbol.proofs.unpacking.bytes_of.Goals as goal

pub loop-word-preserved : goal.loop-word-preserved
loop-word-preserved c =
    let more = bytes_more c.args.words.now c.loop-word.word-index c.loop-word-test.true in
    c.in_ok-extend_from_slice.ensures.items ∙ (λ i. c.loop-word.invariant i ++ c.to_le_bytes.ensures i) ∙ sym more
