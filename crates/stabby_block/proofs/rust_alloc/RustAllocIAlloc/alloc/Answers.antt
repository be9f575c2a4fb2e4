use Rattle.std.proofs.Common.{Some, subst}
use Rattle.stabby_block.specs.Blocks.{ChangesAt, zeroed}
use Rattle.stabby_block.specs.Stored.{kept_blocks}
use Rattle.stabby_block.proofs.StoredLemmas.{new_stored, kept_changes, all_kept_stored}
use Rattle.stabby_block.proofs.rust_alloc.RustAllocIAlloc.alloc.Goals as goal

pub invariant_of-self-2 : goal.invariant_of-self-2
invariant_of-self-2 g c =
    let inner = c.in_ok-inner.inner in
    let old = g.H.IAlloc.blocks c.self.inside.inner in
    let new = g.H.IAlloc.blocks c.write_prefix.new.heap in
    all_kept_stored old new inner.number (zeroed c.args.layout) c.self.invariant
    (new_stored old (g.H.IAlloc.blocks c.alloc.new.self) new inner.number c.args.layout inner.layout c.in-Some.whole
    c.requires c.in_ok-inner.ensures.layout c.in-Some.ensures.some c.in_ok-inner.ensures.ok c.write_prefix.ensures)

pub returns-clause-ok : goal.returns-clause-ok
returns-clause-ok g c =
    let inner = c.in_ok-inner.inner in
    let old = g.H.IAlloc.blocks c.self.inside.inner in
    let new = g.H.IAlloc.blocks c.write_prefix.new.heap in
    let s = new_stored old (g.H.IAlloc.blocks c.alloc.new.self) new inner.number c.args.layout inner.layout c.in-Some.whole
    c.requires c.in_ok-inner.ensures.layout c.in-Some.ensures.some c.in_ok-inner.ensures.ok c.write_prefix.ensures in
    subst (λ h. ChangesAt (kept_blocks (g.H.IAlloc.blocks h)) (kept_blocks new) inner.number (Some (zeroed c.args.layout))) c.self.view_is
    (kept_changes old new inner.number s.below (zeroed c.args.layout) s.change s.keeps)
