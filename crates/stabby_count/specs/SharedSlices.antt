-- What a contract says of the handles of shared slices. Each is a handle of a shared list with a capacity.
use Rattle.std.specs.Prelude.{ℕ, List, Bool}
use Rattle.stabby_vec.specs.Sequence.{Sequence, with_items}
use Rattle.stabby_count.specs.Shared.{arc_value, arc_block, arc_record, IsSole, IsShared, IsSameArc, IsSameWeak, IsLent, FindsOthers, weak_value, weak_block, weak_record}
use Rattle.stabby_count.specs.declared.view.Note.{Note}
use Rattle.stabby_count.specs.declared.slice.ArcSlice.{ArcSlice}
use Rattle.stabby_count.specs.declared.slice.WeakSlice.{WeakSlice}

module _ {X : Type 0} where
  -- the items, and the capacity that the list was shared with
  abbrev pub slice_value : ArcSlice X → Sequence X
  slice_value a = arc_value a.shared

  abbrev pub slice_items : ArcSlice X → List X
  slice_items a = (slice_value a).items

  abbrev pub slice_block : ArcSlice X → ℕ
  slice_block a = arc_block a.shared

  abbrev pub slice_record : ArcSlice X → List Note
  slice_record a = arc_record a.shared

  abbrev pub IsSoleSlice : ArcSlice X → Type 0
  IsSoleSlice a = IsSole a.shared

  abbrev pub IsSharedSlice : ArcSlice X → Type 0
  IsSharedSlice a = IsShared a.shared

  abbrev pub IsSameSlice : ArcSlice X → ArcSlice X → Type 0
  IsSameSlice before after = IsSameArc before.shared after.shared

  -- one look, which did not find the handle alone
  abbrev pub SliceFindsOthers : ArcSlice X → ArcSlice X → Type 0
  SliceFindsOthers before after = FindsOthers before.shared after.shared

  -- one read told whether a handle lends its list: one that did has the list that was written, and one that did not has
  -- its own
  abbrev pub IsLentList : ArcSlice X → ArcSlice X → Sequence X → Bool → Type 0
  IsLentList before after list lent = IsLent before.shared after.shared list lent

  -- the same where it lends the items alone, whose list keeps its capacity
  abbrev pub IsLentSlice : ArcSlice X → ArcSlice X → List X → Bool → Type 0
  IsLentSlice before after items lent = IsLentList before after (with_items (slice_value before) items) lent

  abbrev pub weak_slice_value : WeakSlice X → Sequence X
  weak_slice_value w = weak_value w.shared

  abbrev pub weak_slice_block : WeakSlice X → ℕ
  weak_slice_block w = weak_block w.shared

  abbrev pub weak_slice_record : WeakSlice X → List Note
  weak_slice_record w = weak_record w.shared

  abbrev pub IsSameWeakSlice : WeakSlice X → WeakSlice X → Type 0
  IsSameWeakSlice before after = IsSameWeak before.shared after.shared
