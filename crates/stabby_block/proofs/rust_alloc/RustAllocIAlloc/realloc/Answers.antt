use Rattle.std.proofs.Common.{◌≡◌, ◌≢◌, ℕ, List, ◌<◌, Err, IsErrOf, refl, sym, ap, subst, ◌∙◌, arith}
use Rattle.stabby_block.specs.declared.block.Block.{Block}
use Rattle.stabby_block.specs.declared.block.BlockFault.{BlockFault}
use Rattle.stabby_block.specs.declared.block.BlockFault.TheVariants.{Memory}
use Rattle.stabby_block.specs.Blocks.{Held, IsLive, IsHeld, MovesTo, resized, resized_layout}
use Rattle.stabby_block.specs.Stored.{kept_blocks, stored_due, whole_layout}
use Rattle.stabby_block.proofs.BlockLemmas.{moved_at}
use Rattle.stabby_block.proofs.StoredFaults.{refused_with, fault_alone, below_bound}
use Rattle.stabby_block.proofs.StoredLemmas.{below_of, below_live, below_held, Moved, moved_stored, kept_moves, all_kept_moved}
use Rattle.stabby_block.proofs.rust_alloc.RustAllocIAlloc.realloc.Goals as goal

pub whole_of-requires : goal.whole_of-requires
whole_of-requires g c = (below_of (g.H.IAlloc.blocks c.args.self.now) (g.met.H.IAlloc.sound c.args.self.now) c.args.block c.requires.0 c.requires.1).aligned

pub inner_block-requires-clause-aligned : goal.inner_block-requires-clause-aligned
inner_block-requires-clause-aligned g c = (below_of (g.H.IAlloc.blocks c.args.self.now) (g.met.H.IAlloc.sound c.args.self.now) c.args.block c.requires.0 c.requires.1).aligned

pub inner_block-requires-clause-fits : goal.inner_block-requires-clause-fits
inner_block-requires-clause-fits g c = (below_of (g.H.IAlloc.blocks c.args.self.now) (g.met.H.IAlloc.sound c.args.self.now) c.args.block c.requires.0 c.requires.1).fits

pub realloc-requires : goal.realloc-requires
realloc-requires g c =
    let blocks = g.H.IAlloc.blocks c.args.self.now in
    let below = below_of blocks (g.met.H.IAlloc.sound c.args.self.now) c.args.block c.requires.0 c.requires.1 in
    subst (λ h. IsLive (g.H.IAlloc.blocks h) c.inner_block.result) (sym c.self.view_is)
    (below_live blocks c.args.block c.requires.0 c.inner_block.result below c.inner_block.ensures)

pub write_prefix-requires-clause-aligned : goal.write_prefix-requires-clause-aligned
write_prefix-requires-clause-aligned g c = (below_of (g.H.IAlloc.blocks c.args.self.now) (g.met.H.IAlloc.sound c.args.self.now) c.args.block c.requires.0 c.requires.1).aligned

pub write_prefix-requires-clause-live : goal.write_prefix-requires-clause-live
write_prefix-requires-clause-live g c =
    let old = g.H.IAlloc.blocks c.self.inside.inner in
    let mid = g.H.IAlloc.blocks c.realloc.new.self in
    let block = c.args.block in
    let inner = c.in-Ok.inner in
    let live = subst (λ h. IsLive (kept_blocks (g.H.IAlloc.blocks h)) block) (sym c.self.view_is) c.requires in
    let below = below_of old (g.met.H.IAlloc.sound c.self.inside.inner) block live.0 live.1 in
    let held = below_held old block live.0 c.inner_block.result below c.inner_block.ensures in
    let now = resized below.inner c.in-Some.whole.size in
    (now, moved_at old mid c.inner_block.result.number inner.number (record { layout = inner.layout; bytes = now }) (c.in-Ok.ensures.ok below.inner held))

pub returns-in-Err-clause-faults : goal.returns-in-Err-clause-faults
returns-in-Err-clause-faults g c fault other =
    let block = c.args.block in
    let l = resized_layout block.layout c.args.new_size in
    let due = g.H.IAlloc.due c.self.inside.inner in
    let refusal = c.in-Err.fault in
    let whole : resized_layout c.inner_block.result.layout c.in-Some.whole.size ≡ whole_layout l =
    ap (λ x. resized_layout x.layout c.in-Some.whole.size) c.inner_block.ensures ∙ ap (λ w. resized_layout (whole_layout block.layout) w.size) c.in-Some.ensures.some in
    let alone = fault_alone (due (resized_layout c.inner_block.result.layout c.in-Some.whole.size)) c.inner_block.result c.in-Err.field-0-0 refusal c.in-Err.ensures.value_back c.in-Err.ensures.faults in
    let told = subst (λ x. (f : BlockFault) → f ≢ Memory → (refusal ≡ f → due x f) × (due x f → refusal ≡ f)) whole alone in
    let some : 0 < l.size = let not_zero = c.if-new_size-eq0.false in omega arith in
    subst (λ h. (IsErrOf {T = Block} {E = Block × BlockFault} (Err (block, refusal)) (block, fault) → stored_due (g.H.IAlloc.due h) l fault)
    × (stored_due (g.H.IAlloc.due h) l fault → IsErrOf {T = Block} {E = Block × BlockFault} (Err (block, refusal)) (block, fault))) c.self.view_is
    (refused_with due l some (below_bound (whole_layout l).size c.in-Some.ensures.none.1) (g.met.H.IAlloc.zero_size c.self.inside.inner (whole_layout l)) refusal told block fault other)

-- the block below, at its new number
moved : (g : _) (c : goal.After-write_prefix g) (bytes : List ℕ) → IsHeld (kept_blocks (g.H.IAlloc.blocks c.args.self.now)) c.args.block bytes
    → Moved (g.H.IAlloc.blocks c.self.inside.inner) (g.H.IAlloc.blocks c.write_prefix.new.heap) c.args.block.number c.in-Ok.inner.number
    (record { layout = resized_layout c.args.block.layout c.args.new_size; bytes = resized bytes c.args.new_size })
moved g c bytes is =
    let old = g.H.IAlloc.blocks c.self.inside.inner in
    let mid = g.H.IAlloc.blocks c.realloc.new.self in
    let new = g.H.IAlloc.blocks c.write_prefix.new.heap in
    let block = c.args.block in
    let inner = c.in-Ok.inner in
    let l = resized_layout block.layout c.args.new_size in
    let is' = subst (λ h. IsHeld (kept_blocks (g.H.IAlloc.blocks h)) block bytes) (sym c.self.view_is) is in
    let below = below_of old (g.met.H.IAlloc.sound c.self.inside.inner) block bytes is' in
    let held = below_held old block bytes c.inner_block.result below c.inner_block.ensures in
    let given : MovesTo old mid c.inner_block.result.number inner.number (record { layout = inner.layout; bytes = resized below.inner c.in-Some.whole.size }) = c.in-Ok.ensures.ok below.inner held in
    let named = subst (λ x. MovesTo old mid x.number inner.number (record { layout = inner.layout; bytes = resized below.inner c.in-Some.whole.size })) c.inner_block.ensures given in
    let sized = subst (λ w. MovesTo old mid block.number inner.number (record { layout = inner.layout; bytes = resized below.inner w.size })) c.in-Some.ensures.some named in
    let whole : inner.layout ≡ whole_layout l =
    c.in-Ok.ensures.layout ∙ ap (λ x. resized_layout x.layout c.in-Some.whole.size) c.inner_block.ensures ∙ ap (λ w. resized_layout (whole_layout block.layout) w.size) c.in-Some.ensures.some in
    moved_stored old mid new block bytes inner.number l inner.layout below refl whole sized c.write_prefix.ensures

pub invariant_of-self-in-Ok : goal.invariant_of-self-in-Ok
invariant_of-self-in-Ok g c =
    let l = resized_layout c.args.block.layout c.args.new_size in
    all_kept_moved (g.H.IAlloc.blocks c.self.inside.inner) (g.H.IAlloc.blocks c.write_prefix.new.heap) c.args.block.number c.in-Ok.inner.number
    (record { layout = l; bytes = resized c.requires.0 c.args.new_size }) c.self.invariant (moved g c c.requires.0 c.requires.1)

pub returns-in-Ok-clause-ok : goal.returns-in-Ok-clause-ok
returns-in-Ok-clause-ok g c bytes is =
    let old = g.H.IAlloc.blocks c.self.inside.inner in
    let new = g.H.IAlloc.blocks c.write_prefix.new.heap in
    let held : Held = record { layout = resized_layout c.args.block.layout c.args.new_size; bytes = resized bytes c.args.new_size } in
    let m = moved g c bytes is in
    subst (λ h. MovesTo (kept_blocks (g.H.IAlloc.blocks h)) (kept_blocks new) c.args.block.number c.in-Ok.inner.number held) c.self.view_is
    (kept_moves old new c.args.block.number c.in-Ok.inner.number m.below held m.move m.keeps)
