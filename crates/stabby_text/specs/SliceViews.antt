-- What a contract sees of `Slice`, `SliceMut` and `Str`.
use Rattle.std.specs.Prelude.{ℕ, List}
use Rattle.std.specs.Borrow.{GName}
use Rattle.stabby_text.specs.declared.slices.Slice.{Slice}
use Rattle.stabby_text.specs.declared.slices.SliceMut.{SliceMut}
use Rattle.stabby_text.specs.declared.text_views.Str.{Str}

module _ {T : Type 0} where
  -- the items of the borrowed slice
  abbrev pub slice_items : Slice T → List T
  slice_items s = s.inner.now

  abbrev pub slice_mut_items : SliceMut T → List T
  slice_mut_items s = s.inner.now

  -- the borrow: two references with one name are of the same one
  abbrev pub slice_mut_lender : SliceMut T → GName
  slice_mut_lender s = s.inner.ghost_name

-- the bytes of the borrowed text
abbrev pub str_bytes : Str → List ℕ
str_bytes s = s.inner.now
