-- What a handle that may lend its list ends as, where a `&mut` to the items is returned.
use Rattle.std.specs.Prelude.{List}
use Rattle.stabby_vec.specs.Sequence.{Sequence}
use Rattle.stabby_count.specs.SharedLists.{with_shared_items}
use Rattle.stabby_count.specs.declared.slice.ArcSlice.{ArcSlice}
use Rattle.stabby_count.specs.declared.strong.Arc.{Arc}

-- the same handle, whose list has other items
abbrev pub with_own_items : {X : Type 0} → Arc (Sequence X) → List X → Arc (Sequence X)
with_own_items a items = record a { share = with_shared_items a.share items; one_share = a.one_share }

abbrev pub with_slice_items : {X : Type 0} → ArcSlice X → List X → ArcSlice X
with_slice_items a items = record a { shared = with_own_items a.shared items }
