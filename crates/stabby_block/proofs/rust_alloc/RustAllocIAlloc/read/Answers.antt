use Rattle.std.proofs.Common.{◌+◌, ◌∙◌, length, ap, sym, subst}
use Rattle.std.specs.Prelude.{slice_range}
use Rattle.stabby_block.specs.Blocks.{IsHeld, IsLive}
use Rattle.stabby_block.specs.Prefix.{skip_of}
use Rattle.stabby_block.proofs.StoredLemmas.{below_of, below_live, below_held, read_behind}
use Rattle.stabby_block.proofs.rust_alloc.RustAllocIAlloc.read.Goals as goal

pub skip_past_prefix-skip-requires : goal.skip_past_prefix-skip-requires
skip_past_prefix-skip-requires g c =
    (below_of (g.H.IAlloc.blocks c.args.self.now) (g.met.H.IAlloc.sound c.args.self.now) c.args.block.now c.requires.live.0 c.requires.live.1).aligned

pub inner_block-requires-clause-aligned : goal.inner_block-requires-clause-aligned
inner_block-requires-clause-aligned g c =
    (below_of (g.H.IAlloc.blocks c.args.self.now) (g.met.H.IAlloc.sound c.args.self.now) c.args.block.now c.requires.live.0 c.requires.live.1).aligned

pub inner_block-requires-clause-fits : goal.inner_block-requires-clause-fits
inner_block-requires-clause-fits g c =
    (below_of (g.H.IAlloc.blocks c.args.self.now) (g.met.H.IAlloc.sound c.args.self.now) c.args.block.now c.requires.live.0 c.requires.live.1).fits

pub read-requires-clause-live : goal.read-requires-clause-live
read-requires-clause-live g c =
    let blocks = g.H.IAlloc.blocks c.args.self.now in
    let block = c.args.block.now in
    let inner = c.inner_block.result in
    let below = below_of blocks (g.met.H.IAlloc.sound c.args.self.now) block c.requires.live.0 c.requires.live.1 in
    subst (λ h. IsLive (g.H.IAlloc.blocks h) inner) (sym c.self.view_is) (below_live blocks block c.requires.live.0 inner below c.inner_block.ensures)

pub returns : goal.returns
returns g c bytes is =
    let blocks = g.H.IAlloc.blocks c.args.self.now in
    let block = c.args.block.now in
    let inner = c.inner_block.result in
    let at = c.args.at in
    let n = length c.args.into.now in
    let below = below_of blocks (g.met.H.IAlloc.sound c.args.self.now) block bytes is in
    let held = subst (λ h. IsHeld (g.H.IAlloc.blocks h) inner below.inner) (sym c.self.view_is) (below_held blocks block bytes inner below c.inner_block.ensures) in
    c.read.ensures below.inner held
    ∙ ap (λ skip. slice_range below.inner (skip + at) (skip + at + n)) c.skip_past_prefix-skip.ensures
    ∙ read_behind below.inner bytes (skip_of block.layout.align) at n below.keeps.bytes
