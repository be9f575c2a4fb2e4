-- The bytes of a block below fix the block that it keeps.
use Rattle.std.proofs.Common.{◌≡◌, ℕ, zero, suc, ◌+◌, ◌-◌, ◌<◌, ◌≤◌, max, drop, get_or, Some, Bool, true, false, ◌&&◌, if◌then◌else◌, refl, sym, ap, subst, ◌∙◌, arith, true≢false, nat_eq, ⊎_elim}
use Rattle.std.specs.Prelude.{is_some, unwrap_or}
use Rattle.std.specs.Cmp.{first_so, second_so, unsigned_Decides}
use Rattle.std.specs.Cmp.Lexicographic.{pointwise, pointwise_decides}
use Rattle.std.proofs.lemmas.Bool.{cases_lt}
use Rattle.std.proofs.lemmas.List.{get_or-take, get_or-drop}
use Rattle.stabby_layout.specs.declared.layout.Layout.{Layout}
use Rattle.stabby_layout.proofs.LayoutLemmas.{next_multiple_least}
use Rattle.stabby_block.specs.Blocks.{Held}
use Rattle.stabby_block.specs.Prefix.{skip_of, layout_bytes}
use Rattle.stabby_block.specs.Stored.{whole_layout, prefix_before, Keeps, held_at, keeps_at, kept_up_to, kept}

both : (s t : Bool) → s ≡ true → t ≡ true → (s && t) ≡ true
both s t p q = ap (λ b. b && t) p ∙ q

-- the bytes behind a prefix begin at 32 or later, and less than one step of the alignment later
pub skip_low : (a : ℕ) → 1 ≤ a → 32 ≤ skip_of a
skip_low a pos = (next_multiple_least a 32 pos).reaches

pub skip_high : (a : ℕ) → 1 ≤ a → skip_of a < 32 + a
skip_high a pos = (next_multiple_least a 32 pos).least

same_layout : (x y : Layout) → x.size ≡ y.size → x.align ≡ y.align → x ≡ y
same_layout x y p q = λ i. record { size = p i; align = q i }

pub same_held : (x y : Held) → x.layout ≡ y.layout → x.bytes ≡ y.bytes → x ≡ y
same_held x y p q = λ i. record { layout = p i; bytes = q i }

-- ---- the test

pub kept_at : (below : Held) (a : ℕ) → 1 ≤ a → keeps_at below a ≡ true → Keeps below (held_at below a)
kept_at below a pos passes =
    let whole = whole_layout (held_at below a).layout in
    let size = nat_eq below.layout.size whole.size in
    let align = nat_eq below.layout.align whole.align in
    let prefix = pointwise nat_eq (prefix_before below a) (layout_bytes (held_at below a).layout) in
    record {
      aligned = pos;
      whole = same_layout below.layout whole
          ((unsigned_Decides below.layout.size whole.size).0 (first_so size (align && prefix) passes))
          ((unsigned_Decides below.layout.align whole.align).0 (first_so align prefix (second_so size (align && prefix) passes)));
      prefix = (pointwise_decides unsigned_Decides (prefix_before below a) (layout_bytes (held_at below a).layout)).0 (second_so align prefix (second_so size (align && prefix) passes));
      bytes = refl;
    }

-- what is kept is what would be kept at its alignment
pub keeps_held : (below h : Held) → Keeps below h → held_at below h.layout.align ≡ h
keeps_held below h k =
    let size : below.layout.size ≡ skip_of h.layout.align + h.layout.size = ap (λ l. l.size) k.whole in
    let rest : below.layout.size - skip_of h.layout.align ≡ h.layout.size = omega (arith, size) in
    same_held (held_at below h.layout.align) h (same_layout (held_at below h.layout.align).layout h.layout rest refl) k.bytes

pub keeps_tested : (below h : Held) → Keeps below h → keeps_at below h.layout.align ≡ true
keeps_tested below h k =
    let a = h.layout.align in
    let at = held_at below a in
    let same : at.layout ≡ h.layout = ap (λ x. x.layout) (keeps_held below h k) in
    let is : below.layout ≡ whole_layout at.layout = k.whole ∙ ap whole_layout (sym same) in
    let whole = whole_layout at.layout in
    let prefix : prefix_before below a ≡ layout_bytes at.layout = k.prefix ∙ ap layout_bytes (sym same) in
    both (nat_eq below.layout.size whole.size) _ ((unsigned_Decides below.layout.size whole.size).1 (ap (λ l. l.size) is))
    (both (nat_eq below.layout.align whole.align) _ ((unsigned_Decides below.layout.align whole.align).1 (ap (λ l. l.align) is))
    ((pointwise_decides unsigned_Decides (prefix_before below a) (layout_bytes at.layout)).1 prefix))

-- ---- the search

pub record FoundAt (below h : Held) : Type 0 where
  pub align : ℕ
  pub aligned : 1 ≤ align
  pub tested : keeps_at below align ≡ true
  pub is : held_at below align ≡ h

found_step : (below h : Held) (a : ℕ) (b : Bool) → keeps_at below (suc a) ≡ b
    → (kept_up_to below a ≡ Some h → FoundAt below h)
    → (if b then Some (held_at below (suc a)) else kept_up_to below a) ≡ Some h → FoundAt below h
found_step below h a true test rest is = record { align = suc a; aligned = omega arith; tested = test; is = ap (λ o. unwrap_or o h) is }
found_step below h a false test rest is = rest is

found : (below h : Held) (n : ℕ) → kept_up_to below n ≡ Some h → FoundAt below h
found below h zero is = absurd (true≢false (ap is_some (sym is)))
found below h (suc a) is = found_step below h a (keeps_at below (suc a)) refl (found below h a) is

record FindsSome (below : Held) (n : ℕ) : Type 0 where
  pub held : Held
  pub is : kept_up_to below n ≡ Some held

finds_step : (below : Held) (m : ℕ) (b : Bool) → keeps_at below (suc m) ≡ b → (b ≡ false → FindsSome below m) → FindsSome below (suc m)
finds_step below m true test rest = record { held = held_at below (suc m); is = ap (λ b. if b then Some (held_at below (suc m)) else kept_up_to below m) test }
finds_step below m false test rest =
    let f = rest refl in
    record { held = f.held; is = ap (λ b. if b then Some (held_at below (suc m)) else kept_up_to below m) test ∙ f.is }

finds : (below : Held) (a n : ℕ) → 1 ≤ a → a ≤ n → keeps_at below a ≡ true → FindsSome below n
finds below a zero pos le test = absurd (omega (arith, pos, le))
finds below a (suc m) pos le test =
    finds_step below m (keeps_at below (suc m)) refl (λ missed.
    ⊎_elim (λ lt. finds below a m pos (omega (arith, lt)) test)
    (λ ge. absurd (true≢false (sym test ∙ ap (keeps_at below) (let e : a ≡ suc m = omega (arith, le, ge) in e) ∙ missed)))
    (cases_lt a (suc m)))

-- ---- at most one block is kept

-- the lowest byte of a small alignment, and the seven above it
low_byte : (l : Layout) → l.align ≤ 8 → get_or (layout_bytes l) 8 0 ≡ l.align
low_byte l le = omega arith

pub high_bytes : (l : Layout) (d : ℕ) → l.align ≤ 8 → 1 ≤ d → d ≤ 7 → get_or (layout_bytes l) (8 + d) 0 ≡ 0
high_bytes l zero le low high = absurd (omega (arith, low))
high_bytes l (suc zero) le low high = omega (arith, le)
high_bytes l (suc (suc zero)) le low high = omega (arith, le)
high_bytes l (suc (suc (suc zero))) le low high = omega (arith, le)
high_bytes l (suc (suc (suc (suc zero)))) le low high = omega (arith, le)
high_bytes l (suc (suc (suc (suc (suc zero))))) le low high = omega (arith, le)
high_bytes l (suc (suc (suc (suc (suc (suc zero)))))) le low high = omega (arith, le)
high_bytes l (suc (suc (suc (suc (suc (suc (suc zero))))))) le low high = omega (arith, le)
high_bytes l (suc (suc (suc (suc (suc (suc (suc (suc d)))))))) le low high = absurd (omega (arith, high))

-- a byte of the prefix, in the block below
prefix_byte : (below h : Held) → Keeps below h → (i : ℕ) → i < 32 → get_or below.bytes (skip_of h.layout.align - 32 + i) 0 ≡ get_or (layout_bytes h.layout) i 0
prefix_byte below h k i lt =
    let a = h.layout.align in
    let low = skip_low a k.aligned in
    let within : i < skip_of a - (skip_of a - 32) = omega (arith, low, lt) in
    sym (get_or-drop (skip_of a - 32) below.bytes i 0)
    ∙ sym (get_or-take (skip_of a - (skip_of a - 32)) (drop (skip_of a - 32) below.bytes) i 0 within)
    ∙ ap (λ bytes. get_or bytes i 0) k.prefix

-- of two small alignments with their prefixes in one block, the one whose prefix stands later is no other
later_prefix : (below h j : Held) → Keeps below h → Keeps below j → h.layout.align ≤ 8 → j.layout.align ≤ 8
    → skip_of h.layout.align ≤ skip_of j.layout.align → h.layout.align ≡ j.layout.align
later_prefix below h j k m small small' order =
    let a = h.layout.align in
    let b = j.layout.align in
    let low = skip_low a k.aligned in
    let high' = skip_high b m.aligned in
    let d = skip_of b - skip_of a in
    let near : d ≤ 7 = omega (arith, low, high', small', order) in
    let place : skip_of b - 32 + 8 ≡ skip_of a - 32 + (8 + d) = omega (arith, low, order) in
    let within : 8 + d < 32 = omega (arith, near) in
    let later : get_or below.bytes (skip_of b - 32 + 8) 0 ≡ b = prefix_byte below j m 8 (omega arith) ∙ low_byte j.layout small' in
    let same : get_or (layout_bytes h.layout) (8 + d) 0 ≡ b =
    sym (prefix_byte below h k (8 + d) within) ∙ ap (λ n. get_or below.bytes n 0) (sym place) ∙ later in
    ⊎_elim (λ apart. absurd (let zero' : get_or (layout_bytes h.layout) (8 + d) 0 ≡ 0 = high_bytes h.layout d small apart near in
    let pos = m.aligned in omega (arith, zero', same, pos)))
    (λ together. let none : d ≡ 0 = omega (arith, together) in
    sym (low_byte h.layout small) ∙ ap (λ n. get_or (layout_bytes h.layout) (8 + n) 0) (sym none) ∙ same)
    (cases_lt 0 d)

pub one_alignment : (below h j : Held) → Keeps below h → Keeps below j → h.layout.align ≡ j.layout.align
one_alignment below h j k m =
    let a = h.layout.align in
    let b = j.layout.align in
    let same : max a 8 ≡ max b 8 = sym (ap (λ l. l.align) k.whole) ∙ ap (λ l. l.align) m.whole in
    ⊎_elim (λ large. omega (arith, same, large))
    (λ small. let small' : b ≤ 8 = omega (arith, same, small) in
    ⊎_elim (λ before. later_prefix below h j k m small small' (omega (arith, before)))
    (λ after. sym (later_prefix below j h m k small' small after))
    (cases_lt (skip_of a) (skip_of b)))
    (cases_lt 8 a)

-- what is kept is fixed by the bytes and the layout below
pub kept_once : (below h j : Held) → Keeps below h → Keeps below j → h ≡ j
kept_once below h j k m =
    sym (keeps_held below h k) ∙ ap (held_at below) (one_alignment below h j k m) ∙ keeps_held below j m

-- ---- the search finds it

pub is_kept : (below h : Held) → kept below ≡ Some h → Keeps below h
unfolding kept
is_kept below h is =
    let f = found below h below.layout.align is in
    subst (Keeps below) f.is (kept_at below f.align f.aligned f.tested)

pub kept_is : (below h : Held) → Keeps below h → kept below ≡ Some h
unfolding kept
kept_is below h k =
    let top : below.layout.align ≡ max h.layout.align 8 = ap (λ l. l.align) k.whole in
    let f = finds below h.layout.align below.layout.align k.aligned (omega (arith, top)) (keeps_tested below h k) in
    f.is ∙ ap Some (kept_once below f.held h (is_kept below f.held f.is) k)
