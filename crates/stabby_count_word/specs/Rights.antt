-- What a share of a counted block owns, and the block's invariant.
-- The block has a word, an allocator and a value. u is (the number of the lifetime for which the value is shared, the value, the block's address).
-- Each strong share has one part in 2 ^ 63 of that lifetime's token, and each unit of the low half one stub in 2 ^ 63 of an agreement on u: a weak share has one, and one is the value's own while it is not taken.
-- While the word is positive the invariant has the word, the right to free the block, the rights that are in no share and the views of all shares. Whoever makes the word 0 takes the block out, and leaves both agreements whole, with both rights that are out once: no part, no stub and none of these rights stands beside them.
use Rattle.std.specs.Prelude.{◌≡◌, ℕ, ◌+◌, ◌-◌, ◌/◌, ◌%◌, ◌^◌, ◌<◌, Bool, true, false, List, [], ◌∷◌, ◌++◌, slice_set}
use mathlib.Core.Option.{some}
use lib.ListN.{get_elem?}
use mir.Raw.{raw}
use mir.Syntax.{Ty}
use base.Fraction.{full_share}
use base.Share
use base.FractionLaws.{Counts}
use base.Stored.{Gv, Coded, coded×, coded_ℕ, coded_via}
use base.Fml.{Lft, GName, Share, Fml, ftrue, fsep, fex, flft, flent, fown, finv}
use denote.RattleType.{RattleType}
use denote.Memory.{lone}
use denote.RawPtr.{Ptr, RawPtr, block_of, count_of, lies_at, room_for, ◌+ₚ◌}
use denote.Sharing as lent
use denote.Struct.Lending.{lent_at}
use Rattle.atomic_table.specs.Seated.{word, fact, halved, seen, roster}
use Rattle.std_alloc.specs.Arc.Ownership.{ptr_in_block, value_offset, arc_inner_dealloc}
use Rattle.stabby_count_word.specs.Kinds.{Kind, nothing, one_strong, two_strong, last, emptied, block, one_weak, strong_and_weak, two_weak, held, seized, returning}

-- Which block it is: the names of the parts, of the views, of the right of whoever takes the value, of the stubs, and of the right to bring a value back
pub record BlockNames : Type 0 where
  pub parts : ℕ
  pub views : ℕ
  pub keep : ℕ
  pub stubs : ℕ
  pub lend : ℕ

abbrev pub block_names_coded : Coded BlockNames
block_names_coded = coded_via (coded× coded_ℕ (coded× coded_ℕ (coded× coded_ℕ (coded× coded_ℕ coded_ℕ)))) (λ (z : BlockNames). (z.parts, (z.views, (z.keep, (z.stubs, z.lend))))) (λ x y e i. record { parts = (e i).0; views = (e i).1.0; keep = (e i).1.1.0; stubs = (e i).1.1.1.0; lend = (e i).1.1.1.1 })

abbrev pub strong_half : ℕ → ℕ
strong_half n = n / 4294967296

abbrev pub weak_half : ℕ → ℕ
weak_half n = n % 4294967296

-- what has become of the value: shared, due to whoever ended the last strong share, taken, or out with a sole share
pub data Phase (X : Type 0) : Type 0 where
  shared : ℕ × X → Phase X
  due : ℕ × X → Phase X
  gone : ℕ × X → Phase X
  away : Phase X

module _ (R : RattleType) (γ : GName) where
  abbrev pub about : ℕ × (R.Denot × Ptr) → Gv
  about u = (coded× coded_ℕ (coded× R.coded RawPtr.coded)).code u

  abbrev pub tag : Share → ℕ × (R.Denot × Ptr) → Fml
  tag e u = fown halved γ (e, about u)

  abbrev pub share : ℕ × (R.Denot × Ptr) → Share → Fml
  share u e = fsep (flft (u.0 ∷ []) e) (tag e u)

  abbrev pub parts : ℕ × (R.Denot × Ptr) → ℕ → Fml
  parts u k = fex Share (λ e. fex (Counts 63 e k) (λ _. share u e))

  -- k stubs, of whichever name
  abbrev pub stubs : ℕ × (R.Denot × Ptr) → ℕ → Fml
  stubs u k = fex Share (λ e. fex (Counts 63 e k) (λ _. tag e u))

  abbrev pub idle : Fml
  idle = fex (ℕ × (R.Denot × Ptr)) (tag full_share)

module _ (Z R : RattleType) where
  abbrev pub place : Ptr → Ptr
  place p = p +ₚ value_offset Z R

  abbrev pub shown : ℕ × (R.Denot × Ptr) → Fml
  shown u = lent_at R (place u.1.1) u.1.0 (u.0 ∷ [])

  -- the right to the value once its lifetime ends
  abbrev pub deed : ℕ × (R.Denot × Ptr) → Fml
  deed u = flent (u.0 ∷ []) (lies_at R full_share (place u.1.1) u.1.0)

  -- the value's room
  abbrev pub room : Ptr → Fml
  room p = room_for (raw (lone R.mir)) (place p)

  module _ (d : BlockNames) where
    -- the two rights that are out once at a time: whoever takes the value has the first, and a sole share that holds it the second
    abbrev pub both : Fml
    both = fsep (idle R d.keep) (idle R d.lend)

    -- s parts are out
    abbrev pub all_but : ℕ → ℕ × (R.Denot × Ptr) → Fml
    all_but s u = fsep (parts R d.parts u (2 ^ 63 - s)) (fsep (shown u) (deed u))

    -- what the block keeps for the word n
    abbrev pub state : Ptr → ℕ → Phase (R.Denot × Ptr) → Fml
    state p n (shared u) = fsep (fact ((0 < strong_half n) × (0 < weak_half n))) (fsep both (fsep (all_but (strong_half n) u) (stubs R d.stubs u (2 ^ 63 + 1 - weak_half n))))
    state p n (due u) = fsep (fact ((strong_half n ≡ 0) × (0 < weak_half n))) (fsep (idle R d.lend) (fsep (idle R d.parts) (stubs R d.stubs u (2 ^ 63 + 1 - weak_half n))))
    state p n (gone u) = fsep (fact (strong_half n ≡ 0)) (fsep (fsep both (room p)) (fsep (idle R d.parts) (stubs R d.stubs u (2 ^ 63 - weak_half n))))
    state p n away = fsep (fact (n ≡ 4294967297)) (fsep (idle R d.keep) (fsep (idle R d.parts) (idle R d.stubs)))

    abbrev pub pool : Ptr → ℕ → Fml
    pool p n = fex (Phase (R.Denot × Ptr)) (state p n)

    abbrev pub freed : Fml
    freed = fsep both (fsep (idle R d.parts) (idle R d.stubs))

    abbrev pub one_part : ℕ × (R.Denot × Ptr) → Fml
    one_part u = fsep (parts R d.parts u 1) (shown u)

    abbrev pub outright : ℕ × (R.Denot × Ptr) → Fml
    outright u = fsep (flft (u.0 ∷ []) full_share) (deed u)

    module _ (t : Z.Denot → Ty → Ptr → Fml) where
      abbrev pub beside : Ptr → ℕ → Fml
      beside p n = fsep (pool p n) (arc_inner_dealloc Z t R p)

      abbrev pub standing : Ptr → ℕ → Fml
      standing p n = fsep (word (block_of p) (count_of p + 0) n) (beside p n)

      -- the whole block, with no value in it
      abbrev pub whole_block : Ptr → Fml
      whole_block p = fsep (word (block_of p) (count_of p + 0) 0) (fsep (room p) (arc_inner_dealloc Z t R p))

      abbrev pub right_to : ℕ × (R.Denot × Ptr) → Kind → Fml
      right_to u nothing = ftrue
      right_to u one_strong = one_part u
      right_to u two_strong = fsep (parts R d.parts u 2) (shown u)
      right_to u last = fsep (outright u) (idle R d.keep)
      right_to u emptied = fsep (room u.1.1) (idle R d.keep)
      right_to u block = whole_block u.1.1
      right_to u one_weak = stubs R d.stubs u 1
      right_to u strong_and_weak = fsep (one_part u) (stubs R d.stubs u 1)
      right_to u two_weak = stubs R d.stubs u 2
      right_to u held = fsep (lies_at R full_share (place u.1.1) u.1.0) (idle R d.lend)
      right_to u seized = fsep (outright u) (idle R d.lend)
      right_to u returning = fsep (flft (u.0 ∷ []) full_share) (fsep (shown u) (fsep (deed u) (idle R d.lend)))

  -- what a `&` to a right has: with one part, or the value itself, it shows the value
  abbrev pub right_shares : ℕ × (R.Denot × Ptr) → Kind → Lft → Fml
  right_shares u nothing = lent.nothing
  right_shares u one_strong = lent.beside (lent.one (λ q. flft (u.0 ∷ []) q)) (lent.held (u.0 ∷ []) (lent_at R (place u.1.1) u.1.0))
  right_shares u two_strong = lent.nothing
  right_shares u last = lent.nothing
  right_shares u emptied = lent.nothing
  right_shares u block = lent.nothing
  right_shares u one_weak = lent.nothing
  right_shares u strong_and_weak = lent.nothing
  right_shares u two_weak = lent.nothing
  right_shares u held = lent_at R (place u.1.1) u.1.0
  right_shares u seized = lent.nothing
  right_shares u returning = lent.nothing

abbrev pub seat_owns : {W : Type 0} → (W → Gv) → ℕ → ℕ → W → Fml
seat_owns c γ id w = seen c γ id base.Share.three_quarters w

module _ (Z R : RattleType) (t : Z.Denot → Ty → Ptr → Fml) {W : Type 0} (e : W → Gv) (holds : ℕ → List W → Type 0) (d : BlockNames) where
  abbrev pub viewed : ℕ → List W → Fml
  viewed n views = fsep (roster e d.views 0 views) (fact (holds n views))

  abbrev pub all_views : ℕ → Fml
  all_views n = fex (List W) (viewed n)

  abbrev pub standing_viewed : Ptr → ℕ → Fml
  standing_viewed p n = fsep (standing Z R d t p n) (all_views n)

  abbrev pub stands : Ptr → Bool → Fml
  stands p true = fex ℕ (standing_viewed p)
  stands p false = freed Z R d

  -- what holds of the block between any two steps
  abbrev pub counted : Ptr → Fml
  counted p = fex Bool (stands p)

  -- what a share owns: its right, its view and a way into the block's invariant
  abbrev pub share_owns : ℕ × (R.Denot × Ptr) → Kind → ℕ → W → Fml
  share_owns u k id w = fsep (ptr_in_block u.1.1) (fsep (fsep (right_to Z R d t u k) (seat_owns e d.views id w)) (finv (counted u.1.1)))

module _ (Z R : RattleType) where
  abbrev pub share_shares : ℕ × (R.Denot × Ptr) → Kind → Lft → Fml
  share_shares u k = lent.beside (lent.said (ptr_in_block u.1.1)) (right_shares Z R u k)

-- a view is cut in two, and a new seat has the second
abbrev pub Cuts : {W : Type 0} → (ℕ → List W → Type 0) → ℕ → W → W → W → Type 0
Cuts {W} holds id v left right = (n : ℕ) (views : List W) → holds n views → get_elem? views id ≡ some v → holds n (slice_set views id left ++ right ∷ [])
