-- Where C puts two fields, one after another.
use Rattle.std.specs.Prelude.{◌≡◌, ℕ, ◌+◌, ◌*◌, ◌^◌, max}
use Rattle.stabby_layout.specs.declared.layout.Layout.{Layout}
use Rattle.stabby_layout.specs.Layouts.{next_multiple}

-- the alignment is a power of two and the size a multiple of it, as of every type in C
pub record IsOfCType (l : Layout) : Type 0 where
  pub power : (k : ℕ) × (l.align ≡ 2 ^ k)
  pub whole : (n : ℕ) × (l.size ≡ n * l.align)

-- the second field stands at the next multiple of its alignment, and the size is a multiple of the greater one
abbrev pub c_struct : Layout → Layout → Layout
c_struct a b =
    let align = max a.align b.align in
    record { size = next_multiple align (next_multiple b.align a.size + b.size); align = align }
