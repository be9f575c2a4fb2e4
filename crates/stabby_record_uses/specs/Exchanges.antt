-- What an exchange tells of the value's shape.
use Rattle.std.specs.Prelude.{ℕ, Option, Some, None, Result, Ok, Err}
use Rattle.stabby_record_uses.specs.declared.exchanging.ExchangeFault.{ExchangeFault}
use Rattle.stabby_record_uses.specs.declared.exchanging.ExchangeFault.TheVariants.{Shape, Differs, Memory}

-- the first place that doesn't fit, where that is the answer
abbrev pub shape_of : {T : Type 0} → Result T ExchangeFault → Option ℕ
shape_of (Ok value) = None
shape_of (Err (Shape at)) = Some at
shape_of (Err (Differs at)) = None
shape_of (Err Memory) = None

-- the writer's fault: a misfit, or want of memory
abbrev pub IsOfWriting : ExchangeFault → Type 0
IsOfWriting (Shape at) = Unit {0}
IsOfWriting (Differs at) = ⊥
IsOfWriting Memory = Unit {0}
