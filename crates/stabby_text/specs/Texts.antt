-- What a contract sees of a text: its bytes and its capacity.
use Rattle.std.specs.Prelude.{ℕ, List, length, Bool, slice_set, nat_eq}
use Rattle.std.specs.Ordering.{nat_cmp}
use Rattle.std.specs.declared.cmp.Ordering.{Ordering}
use Rattle.std.specs.Cmp.Lexicographic.{pointwise, slice_cmp}
use Rattle.stabby_vec.specs.Sequence.{Sequence}

-- the bytes of a text, with its capacity
abbrev pub Text : Type 0
Text = Sequence ℕ

-- the text whose bytes are `bytes` and fill its capacity
abbrev pub exact_text : List ℕ → Text
exact_text bytes = record { items = bytes; capacity = length bytes }

-- the text with the byte at `at` replaced
abbrev pub with_byte : Text → ℕ → ℕ → Text
with_byte text at byte = record text { items = slice_set text.items at byte }

-- whether two texts have the same bytes
abbrev pub text_eq : Text → Text → Bool
text_eq x y = pointwise nat_eq x.items y.items

-- the order of two texts: that of their bytes
abbrev pub text_cmp : Text → Text → Ordering
text_cmp x y = slice_cmp nat_cmp x.items y.items
