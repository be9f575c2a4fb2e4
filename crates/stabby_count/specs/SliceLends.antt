-- What a strong handle of a shared slice ends as, where a `&mut` to its list or its items is returned.
use Rattle.std.specs.Prelude.{List, Option, is_some}
use Rattle.std.specs.Borrow.{Array, Lends, LendsSo, Fml, RattleType, MutBor}
use Rattle.stabby_vec.specs.Sequence.{Sequence}
use Rattle.stabby_count.specs.SharedLists.{list_row}
use Rattle.stabby_count.specs.SharedSlices.{slice_value, slice_items, IsLentList, IsLentSlice}
use Rattle.stabby_count.specs.SliceLoans.{with_own_items, with_slice_items}
use Rattle.stabby_count.specs.declared.slice.ArcSlice.{ArcSlice}
use Rattle.stabby_count.specs.declared.strong.Arc.{Arc}
use Rattle.stabby_count.specs.contracts.slice.ArcSlice as slice
use Rattle.stabby_count.specs.contracts.strong.Arc as handle

module _ (T : RattleType) where
  -- the items are those that r shows last
  abbrev pub own_lends_items : MutBor (Arc (Sequence T.Denot)) → MutBor (List T.Denot) → Fml
  own_lends_items a r = Lends (handle.the_row (list_row T)) (Array T 0) a r (with_own_items a.now)

module _ (T : RattleType) (a : MutBor (ArcSlice T.Denot)) where
  abbrev pub slice_lends_own : MutBor (List T.Denot) → Fml
  slice_lends_own r = Lends (slice.the_row T) (Array T 0) a r (with_slice_items a.now)

  -- what `get_mut` leaves: one read told whether it lends, and what is written is the list from then on
  abbrev pub slice_lends_list : Option (MutBor (Sequence T.Denot)) → Fml
  slice_lends_list r = LendsSo (slice.the_row T) (list_row T) a r
      (λ n w. IsLentList a.now n w (is_some r)) (λ n. IsLentList a.now n (slice_value a.now) (is_some r))

  -- what `as_slice_mut` leaves: the same of the items
  abbrev pub slice_lends_items : Option (MutBor (List T.Denot)) → Fml
  slice_lends_items r = LendsSo (slice.the_row T) (Array T 0) a r
      (λ n w. IsLentSlice a.now n w (is_some r)) (λ n. IsLentSlice a.now n (slice_items a.now) (is_some r))
