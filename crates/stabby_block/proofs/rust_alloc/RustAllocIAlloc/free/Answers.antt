use Rattle.std.proofs.Common.{sym, subst}
use Rattle.stabby_block.specs.Blocks.{IsLive}
use Rattle.stabby_block.proofs.StoredLemmas.{below_of, below_live}
use Rattle.stabby_block.proofs.rust_alloc.RustAllocIAlloc.free.Goals as goal

pub inner_block-requires-clause-aligned : goal.inner_block-requires-clause-aligned
inner_block-requires-clause-aligned g c =
    (below_of (g.H.IAlloc.blocks c.args.self.now) (g.met.H.IAlloc.sound c.args.self.now) c.args.block c.requires.0 c.requires.1).aligned

pub inner_block-requires-clause-fits : goal.inner_block-requires-clause-fits
inner_block-requires-clause-fits g c =
    (below_of (g.H.IAlloc.blocks c.args.self.now) (g.met.H.IAlloc.sound c.args.self.now) c.args.block c.requires.0 c.requires.1).fits

pub free-requires : goal.free-requires
free-requires g c =
    let blocks = g.H.IAlloc.blocks c.args.self.now in
    let below = below_of blocks (g.met.H.IAlloc.sound c.args.self.now) c.args.block c.requires.0 c.requires.1 in
    subst (λ h. IsLive (g.H.IAlloc.blocks h) c.inner_block.result) (sym c.self.view_is)
    (below_live blocks c.args.block c.requires.0 c.inner_block.result below c.inner_block.ensures)
