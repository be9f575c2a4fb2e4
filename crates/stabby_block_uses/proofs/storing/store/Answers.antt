use Rattle.std.proofs.Common.{◌≡◌, Some, length, replicate, ap, sym, ◌∙◌}
use Rattle.stabby_block.specs.Blocks.{Held, written}
use Rattle.stabby_block.proofs.BlockLemmas.{changed_at}
use Rattle.stabby_block.proofs.PrefixLemmas.{written_whole}
use Rattle.stabby_block_uses.proofs.storing.store.Goals as goal

pub returns-clause-held : goal.returns-clause-held
returns-clause-held g c =
    let b = c.in_ok-block.block in
    let before = g.H.IAlloc.blocks c.args.heap.now in
    let mid = g.H.IAlloc.blocks c.alloc.new.self in
    let after = g.H.IAlloc.blocks c.write.new.self in
    let zeros = replicate (length c.args.bytes.now) 0 in
    let made : Held = record { layout = b.layout; bytes = written zeros 0 c.args.bytes.now } in
    let live : mid b.number ≡ Some (record { layout = b.layout; bytes = zeros }) =
    changed_at before mid b.number _ c.in_ok-block.ensures.ok ∙ ap (λ k. Some (record { layout = k; bytes = zeros })) (sym c.in_ok-block.ensures.layout) in
    changed_at mid after b.number (Some made) (c.write.ensures.ok zeros live) ∙ ap (λ bytes. Some (record { layout = b.layout; bytes = bytes })) (written_whole c.args.bytes.now)
