-- What holds of the blocks that a heap below keeps, where it holds of the heap below.
use Rattle.std.specs.Prelude.{◌≡◌, ℕ, ◌+◌, ◌-◌, max, length, Option, Some, None, is_some}
use Rattle.std.specs.Option.{option_and_then}
use Rattle.std.proofs.Common.{refl, sym, ap, ◌∙◌, arith, true≢false}
use Rattle.std.proofs.lemmas.List.{length-drop}
use Rattle.stabby_block.specs.Blocks.{Held, Blocks, IsSound, HasEnd}
use Rattle.stabby_block.specs.Prefix.{skip_of}
use Rattle.stabby_block.specs.Stored.{kept, Keeps, kept_blocks}
use Rattle.stabby_block.specs.KeptLemmas.{is_kept}

pub record StandsIn (blocks : Blocks) (n : ℕ) (h : Held) : Type 0 where
  pub below : Held
  pub there : blocks n ≡ Some below
  pub keeps : Keeps below h

stands_at : (blocks : Blocks) (n : ℕ) (h : Held) (o : Option Held) → blocks n ≡ o → option_and_then kept o ≡ Some h → StandsIn blocks n h
stands_at blocks n h None at is = absurd (true≢false (ap is_some (sym is)))
stands_at blocks n h (Some below) at is = record { below = below; there = at; keeps = is_kept below h is }

pub stands_in : (blocks : Blocks) (n : ℕ) (h : Held) → kept_blocks blocks n ≡ Some h → StandsIn blocks n h
stands_in blocks n h is = stands_at blocks n h (blocks n) refl is

pub stored_sound : (blocks : Blocks) → ((n : ℕ) (h : Held) → blocks n ≡ Some h → IsSound h) → (n : ℕ) (h : Held) → kept_blocks blocks n ≡ Some h → IsSound h
stored_sound blocks sound n h is =
    let s = stands_in blocks n h is in
    let w = sound n s.below s.there in
    let k = s.keeps in
    let skip = skip_of h.layout.align in
    let size : s.below.layout.size ≡ skip + h.layout.size = ap (λ l. l.size) k.whole in
    let align : s.below.layout.align ≡ max h.layout.align 8 = ap (λ l. l.align) k.whole in
    let rest : length h.bytes ≡ length s.below.bytes - skip = ap length (sym k.bytes) ∙ length-drop skip s.below.bytes in
    record {
      aligned = k.aligned;
      sized = omega (arith, rest, size, w.sized);
      size_fits = omega (arith, size, w.size_fits);
      align_fits = omega (arith, align, w.align_fits);
    }

pub stored_finite : (blocks : Blocks) → HasEnd blocks → HasEnd (kept_blocks blocks)
stored_finite blocks e = record { end = e.end; none = λ n le. ap (option_and_then kept) (e.none n le) }
