-- The statements of the crate's laws.
use Rattle.std.specs.Prelude.{◌≡◌, ◌≤◌, ℕ}
use Rattle.stabby_layout.specs.declared.layout.Layout.{Layout}
use Rattle.stabby_layout.specs.Layouts.{joined, next_multiple, IsNextMultiple}
use Rattle.stabby_layout.specs.CStruct.{IsOfCType, c_struct}

-- two layouts of C types one after another are the C struct of the two, in this order
abbrev pub ConcatIsCStruct : Type 0
ConcatIsCStruct = (a b : Layout) → IsOfCType a → IsOfCType b → joined a b ≡ c_struct a b

-- `next_multiple` is the least multiple that isn't below
abbrev pub NextMultipleIsLeast : Type 0
NextMultipleIsLeast = (a n : ℕ) → 1 ≤ a → IsNextMultiple a n (next_multiple a n)
