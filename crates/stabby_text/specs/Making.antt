-- What `try_make_in` answers.
use Rattle.std.specs.Prelude.{Result, Ok, Err}
use Rattle.stabby_text.specs.declared.boxed.MakeFault.{MakeFault}
use Rattle.stabby_text.specs.declared.boxed.MakeFault.TheVariants.{Constructor, Memory}

module _ {T E : Type 0} (may_answer : Result T E → Type 0) where
  -- the closure answered the value that is held or handed back, or the fault
  abbrev pub MadeOrFault : Result T (MakeFault T E) → Type 0
  MadeOrFault (Ok value) = may_answer (Ok value)
  MadeOrFault (Err (Constructor fault)) = may_answer (Err fault)
  MadeOrFault (Err (Memory value)) = may_answer (Ok value)
