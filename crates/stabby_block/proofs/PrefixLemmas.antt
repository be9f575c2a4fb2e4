-- Prefixes: where they end, and that reading one undoes writing it.
use Rattle.std.proofs.Common.{◌≡◌, ℕ, ◌+◌, ◌-◌, ◌*◌, ◌/◌, ◌%◌, ◌<◌, ◌≤◌, List, ◌++◌, length, drop, replicate, sym, ap, ◌∙◌, arith}
use Rattle.std.proofs.lemmas.Nat.{div-add-mod', div-mul-add, from_le_bytes-to_le_bytes_8}
use Rattle.std.proofs.lemmas.List.{append-nil, drop-replicate}
use Rattle.stabby_layout.specs.declared.layout.Layout.{Layout}
use Rattle.stabby_layout.specs.Layouts.{next_multiple}
use Rattle.stabby_block.specs.declared.array.AllocPrefix.{AllocPrefix}
use Rattle.stabby_block.specs.Blocks.{written}
use Rattle.stabby_block.specs.Prefix.{layout_bytes, LayoutFits, number_at}
use Rattle.stabby_block.specs.ArrayPrefix.{prefix_bytes, prefix_of, prefixed, PrefixFits}

-- a multiple that is at or above n, and less than one step above it, is the least
pub multiple_is_least : (a n m : ℕ) → 1 ≤ a → n ≤ m → m < n + a → m % a ≡ 0 → m ≡ next_multiple a n
multiple_is_least a n m pos low high whole =
    let parts = div-add-mod' m a in
    let is : m ≡ m / a * a = omega (arith, parts, whole) in
    let split : n + (a - 1) ≡ m / a * a + (n + (a - 1) - m / a * a) = omega (arith, is, low, high, pos) in
    let rest : n + (a - 1) - m / a * a < a = omega (arith, is, low, high, pos) in
    let quotient : (n + (a - 1)) / a ≡ m / a = ap (λ x. x / a) split ∙ div-mul-add (m / a) a (n + (a - 1) - m / a * a) rest in
    is ∙ sym (ap (λ x. x * a) quotient)

pub layout_read_back : (l : Layout) → LayoutFits l → record { size = number_at (layout_bytes l) 0; align = number_at (layout_bytes l) 8 } ≡ l
layout_read_back l fits = λ i. record {
  size = from_le_bytes-to_le_bytes_8 l.size fits.0 i;
  align = from_le_bytes-to_le_bytes_8 l.align fits.1 i;
}

pub prefix_read_back : (p : AllocPrefix) → PrefixFits p → prefix_of (prefix_bytes p) ≡ p
prefix_read_back p fits = λ i. record {
  strong = from_le_bytes-to_le_bytes_8 p.strong fits.0 i;
  weak = from_le_bytes-to_le_bytes_8 p.weak fits.1 i;
  capacity = from_le_bytes-to_le_bytes_8 p.capacity fits.2 i;
  origin = from_le_bytes-to_le_bytes_8 p.origin fits.3 i;
}

-- 32 bytes written at the start of zero bytes
pub written_at_start : (size : ℕ) (bytes : List ℕ) → length bytes ≡ 32 → written (replicate size 0) 0 bytes ≡ bytes ++ replicate (size - 32) 0
written_at_start size bytes whole =
    let end : 0 + length bytes ≡ 32 = omega (arith, whole) in
    ap (λ n. bytes ++ drop n (replicate size 0)) end ∙ ap (λ rest. bytes ++ rest) (drop-replicate 32 size 0)

-- the block that a heap gave, with a prefix written over its first bytes
pub new_prefixed : (given l whole : Layout) (p : AllocPrefix) (bytes : List ℕ) → given ≡ l → l ≡ whole → bytes ≡ prefix_bytes p
    → record { layout = given; bytes = written (replicate l.size 0) 0 bytes } ≡ prefixed whole p
new_prefixed given l whole p bytes same is read =
    let filled : written (replicate l.size 0) 0 bytes ≡ prefix_bytes p ++ replicate (whole.size - 32) 0 =
    written_at_start l.size bytes (ap length read) ∙ ap (λ b. b ++ replicate (l.size - 32) 0) read ∙ ap (λ k. prefix_bytes p ++ replicate (k.size - 32) 0) is in
    let kept : given ≡ whole = same ∙ is in
    λ i. record { layout = kept i; bytes = filled i }

-- zero bytes written over as a whole
pub written_whole : (bytes : List ℕ) → written (replicate (length bytes) 0) 0 bytes ≡ bytes
written_whole bytes =
    let end : 0 + length bytes ≡ length bytes = omega arith in
    let none : length bytes - length bytes ≡ 0 = omega arith in
    ap (λ n. bytes ++ drop n (replicate (length bytes) 0)) end ∙ ap (λ rest. bytes ++ rest) (drop-replicate (length bytes) (length bytes) 0 ∙ ap (λ n. replicate n 0) none) ∙ append-nil bytes
