use Rattle.std.proofs.Common.{◌≤◌, IsTrue, refl, subst, arith}
use Rattle.stabby_block.specs.Blocks.{IsLive}
use Rattle.stabby_block.specs.Stored.{kept_blocks}
use Rattle.stabby_block.proofs.StoredLemmas.{never, not_live_unaligned, not_live_too_large, not_live_below, live_by_prefix}
use Rattle.stabby_block.proofs.rust_alloc.RustAllocIAlloc.is_live.Goals as goal

pub returns-then-block-eq0 : goal.returns-then-block-eq0
returns-then-block-eq0 g c =
    never (not_live_unaligned (g.H.IAlloc.blocks c.args.self.now) (g.met.H.IAlloc.sound c.args.self.now) c.args.block.now c.if-block-eq0.true)

pub returns-in_default : goal.returns-in_default
returns-in_default g c =
    never (not_live_too_large (g.H.IAlloc.blocks c.args.self.now) (g.met.H.IAlloc.sound c.args.self.now) c.args.block.now (c.in_default.ensures.none.0 refl))

pub returns-then-is_live : goal.returns-then-is_live
returns-then-is_live g c =
    let b = c.args.block.now in
    let pos : 1 ≤ b.layout.align = let not_zero = c.if-block-eq0.false in omega arith in
    subst (λ h. (IsTrue c.has_prefix.result → IsLive (kept_blocks (g.H.IAlloc.blocks h)) b) × (IsLive (kept_blocks (g.H.IAlloc.blocks h)) b → IsTrue c.has_prefix.result)) c.self.view_is
    (live_by_prefix (g.H.IAlloc.blocks c.self.inside.inner) (g.met.H.IAlloc.sound c.self.inside.inner) b
    c.in-Some.whole c.is_live.result c.has_prefix.result pos c.in-Some.ensures.some c.is_live.ensures c.if-is_live.true c.has_prefix.ensures)

pub returns-else-is_live : goal.returns-else-is_live
returns-else-is_live g c =
    let b = c.args.block.now in
    subst (λ h. (IsTrue c.is_live.result → IsLive (kept_blocks (g.H.IAlloc.blocks h)) b) × (IsLive (kept_blocks (g.H.IAlloc.blocks h)) b → IsTrue c.is_live.result)) c.self.view_is
    (not_live_below (g.H.IAlloc.blocks c.self.inside.inner) (g.met.H.IAlloc.sound c.self.inside.inner) b
    c.in-Some.whole c.is_live.result c.in-Some.ensures.some c.is_live.ensures c.if-is_live.false)
