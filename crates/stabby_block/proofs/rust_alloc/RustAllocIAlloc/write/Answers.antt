use Rattle.std.proofs.Common.{ℕ, List, ◌+◌, ◌≤◌, Some, length, sym, subst, arith}
use Rattle.stabby_block.specs.Blocks.{Held, IsHeld, IsLive, ChangesAt, written}
use Rattle.stabby_block.specs.Prefix.{skip_of}
use Rattle.stabby_block.specs.Stored.{kept_blocks, whole_layout}
use Rattle.stabby_block.proofs.StoredLemmas.{below_of, below_live, below_held, Stored, kept_changes, keeps_written, all_kept_stored}
use Rattle.stabby_block.proofs.rust_alloc.RustAllocIAlloc.write.Goals as goal

pub skip_past_prefix-skip-requires : goal.skip_past_prefix-skip-requires
skip_past_prefix-skip-requires g c =
    (below_of (g.H.IAlloc.blocks c.args.self.now) (g.met.H.IAlloc.sound c.args.self.now) c.args.block.now c.requires.live.0 c.requires.live.1).aligned

pub inner_block-requires-clause-aligned : goal.inner_block-requires-clause-aligned
inner_block-requires-clause-aligned g c =
    (below_of (g.H.IAlloc.blocks c.args.self.now) (g.met.H.IAlloc.sound c.args.self.now) c.args.block.now c.requires.live.0 c.requires.live.1).aligned

pub inner_block-requires-clause-fits : goal.inner_block-requires-clause-fits
inner_block-requires-clause-fits g c =
    (below_of (g.H.IAlloc.blocks c.args.self.now) (g.met.H.IAlloc.sound c.args.self.now) c.args.block.now c.requires.live.0 c.requires.live.1).fits

pub write-requires-clause-live : goal.write-requires-clause-live
write-requires-clause-live g c =
    let blocks = g.H.IAlloc.blocks c.args.self.now in
    let block = c.args.block.now in
    let inner = c.inner_block.result in
    let below = below_of blocks (g.met.H.IAlloc.sound c.args.self.now) block c.requires.live.0 c.requires.live.1 in
    subst (λ h. IsLive (g.H.IAlloc.blocks h) inner) (sym c.self.view_is) (below_live blocks block c.requires.live.0 inner below c.inner_block.ensures)

-- the block below, with its bytes written
stored : (g : _) (c : goal.After-write g) (old : List ℕ) → IsHeld (kept_blocks (g.H.IAlloc.blocks c.args.self.now)) c.args.block.now old
    → Stored (g.H.IAlloc.blocks c.self.inside.inner) (g.H.IAlloc.blocks c.write.new.self) c.args.block.now.number
    (record { layout = c.args.block.now.layout; bytes = written old c.args.at c.args.bytes.now })
stored g c old is =
    let blocks = g.H.IAlloc.blocks c.self.inside.inner in
    let new = g.H.IAlloc.blocks c.write.new.self in
    let block = c.args.block.now in
    let inner = c.inner_block.result in
    let at = c.args.at in
    let more = c.args.bytes.now in
    let skip = skip_of block.layout.align in
    let is' = subst (λ h. IsHeld (kept_blocks (g.H.IAlloc.blocks h)) block old) (sym c.self.view_is) is in
    let below = below_of blocks (g.met.H.IAlloc.sound c.self.inside.inner) block old is' in
    let held = below_held blocks block old inner below c.inner_block.ensures in
    let wrote : ChangesAt blocks new inner.number (Some (record { layout = inner.layout; bytes = written below.inner (c.skip_past_prefix-skip.result + at) more })) = c.write.ensures.ok below.inner held in
    let at_skip = subst (λ s. ChangesAt blocks new inner.number (Some (record { layout = inner.layout; bytes = written below.inner (s + at) more }))) c.skip_past_prefix-skip.ensures wrote in
    let named = subst (λ x. ChangesAt blocks new x.number (Some (record { layout = x.layout; bytes = written below.inner (skip + at) more }))) c.inner_block.ensures at_skip in
    let within : skip + at + length more ≤ length below.inner = omega (arith, below.sized, c.requires.within) in
    record {
      below = record { layout = whole_layout block.layout; bytes = written below.inner (skip + at) more };
      change = named;
      keeps = keeps_written below.inner old block.layout at more within below.keeps;
    }

pub invariant_of-self : goal.invariant_of-self
invariant_of-self g c =
    let block = c.args.block.now in
    all_kept_stored (g.H.IAlloc.blocks c.self.inside.inner) (g.H.IAlloc.blocks c.write.new.self) block.number
    (record { layout = block.layout; bytes = written c.requires.live.0 c.args.at c.args.bytes.now }) c.self.invariant (stored g c c.requires.live.0 c.requires.live.1)

pub returns-clause-ok : goal.returns-clause-ok
returns-clause-ok g c old is =
    let block = c.args.block.now in
    let new = g.H.IAlloc.blocks c.write.new.self in
    let held : Held = record { layout = block.layout; bytes = written old c.args.at c.args.bytes.now } in
    let s = stored g c old is in
    subst (λ h. ChangesAt (kept_blocks (g.H.IAlloc.blocks h)) (kept_blocks new) block.number (Some held)) c.self.view_is
    (kept_changes (g.H.IAlloc.blocks c.self.inside.inner) new block.number s.below held s.change s.keeps)
