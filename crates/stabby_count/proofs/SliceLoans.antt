-- The items of a list that a handle may lend.
use Rattle.std.proofs.Common.{arith, ◌≡◌, Bool, List, true, false, ap, subst}
use Rattle.std.proofs.Props.{props}
use Rattle.std.specs.Prelude.{IsTrue}
use Rattle.stabby_count_word.proofs.KindFacts.{IsStrong-prop}
use Rattle.stabby_count_word.specs.Steps.{IsStrong}
use Rattle.stabby_vec.specs.Sequence.{Sequence, with_items}
use Rattle.stabby_count.specs.SharedLists.{with_shared_items}
use Rattle.stabby_count.specs.SliceLoans.{with_own_items, with_slice_items}
use Rattle.stabby_count.specs.Records.{ReadsAlone}
use Rattle.stabby_count.specs.SharedSlices.{slice_value, slice_block, slice_record, IsSoleSlice, IsLentSlice}
use Rattle.stabby_count.specs.declared.slice.ArcSlice.{ArcSlice}
use Rattle.stabby_count.specs.declared.strong.Arc.{Arc}

module _ {X : Type 0} where
  pub own_items_are : (a : Arc (Sequence X)) (w : List X) (h : IsStrong a.share.kind × (a.share.view.strong ≡ 1) × (a.share.view.weak ≡ 0))
      → ◌≡◌ {A = Arc (Sequence X)} (record a { share = with_shared_items a.share w; one_share = h }) (with_own_items a w)
  own_items_are a w h = λ i. record a { share = with_shared_items a.share w; one_share = one h a.one_share i }
    where
      one : IsProp (IsStrong a.share.kind × (a.share.view.strong ≡ 1) × (a.share.view.weak ≡ 0))
      one = Prim.hlevel (props, IsStrong-prop)

  module _ (before seized : ArcSlice X) (u : Bool) (read : ReadsAlone (slice_record before) (slice_record seized) u) (kept : (slice_value seized ≡ slice_value before) × (slice_block seized ≡ slice_block before)) where
    pub lends_items : u ≡ true → (IsTrue u → IsSoleSlice seized) → (w : List X) → IsLentSlice before (with_slice_items seized w) w true
    lends_items so becomes w = record {
      written = λ _. ap (λ (x : Sequence X). with_items x w) kept.0;
      kept = λ e. Prim.grind arith;
      read = subst (ReadsAlone (slice_record before) (slice_record seized)) so read;
      block = kept.1;
      sole = λ _. becomes so;
    }

    pub keeps_items : u ≡ false → (w : List X) → IsLentSlice before seized w false
    keeps_items so w = record {
      written = λ e. Prim.grind arith;
      kept = λ _. kept.0;
      read = subst (ReadsAlone (slice_record before) (slice_record seized)) so read;
      block = kept.1;
      sole = λ e. Prim.grind arith;
    }
