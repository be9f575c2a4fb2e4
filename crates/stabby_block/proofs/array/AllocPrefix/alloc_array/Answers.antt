use Rattle.std.proofs.Common.{◌≡◌, Some, replicate, ap, sym, subst, ◌∙◌}
use Rattle.stabby_block.specs.Blocks.{Held, ChangesAt, zeroed, written}
use Rattle.stabby_block.specs.ArrayPrefix.{array_layout, first_prefix, prefixed}
use Rattle.stabby_block.proofs.BlockLemmas.{changed_at, changed_twice}
use Rattle.stabby_block.proofs.PrefixLemmas.{new_prefixed}
use Rattle.stabby_block.proofs.array.AllocPrefix.alloc_array.Goals as goal

pub returns-clause-ok : goal.returns-clause-ok
returns-clause-ok g c =
    let l = c.in_ok-layout.layout in
    let b = c.in_ok-block.block in
    let before = g.H.IAlloc.blocks c.args.heap.now in
    let mid = g.H.IAlloc.blocks c.alloc.new.self in
    let after = g.H.IAlloc.blocks c.write.new.self in
    let zeros = replicate l.size 0 in
    let whole = array_layout g.T.Described.stated_layout c.args.capacity in
    let prefix = first_prefix c.args.capacity b.number in
    let made : Held = record { layout = b.layout; bytes = written zeros 0 c.encode.result } in
    let first : ChangesAt before mid b.number (Some (zeroed l)) = c.in_ok-block.ensures.ok in
    let live : mid b.number ≡ Some (record { layout = b.layout; bytes = zeros }) =
    changed_at before mid b.number (Some (zeroed l)) first ∙ ap (λ k. Some (record { layout = k; bytes = zeros })) (sym c.in_ok-block.ensures.layout) in
    let second : ChangesAt mid after b.number (Some made) = c.write.ensures.ok zeros live in
    let is : made ≡ prefixed whole prefix =
    new_prefixed b.layout l whole prefix c.encode.result c.in_ok-block.ensures.layout c.in_ok-layout.ensures.ok c.encode.ensures in
    subst (λ h. ChangesAt before after b.number (Some h)) is (changed_twice before mid after b.number (Some (zeroed l)) (Some made) first second)
