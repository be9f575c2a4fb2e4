-- What a poll may do.
use Rattle.std.specs.Prelude.{◌≡◌, Option, Some, None, MatchOption}
use Rattle.stabby_dyn.specs.declared.future.MaybeResolved.{MaybeResolved}
use Rattle.stabby_dyn.specs.declared.future.MaybeResolved.TheVariants.{Resolved, Empty, Pending}

module _ {X F : Type 0} where
  -- what a poll may answer, and what it leaves, where a poll of the future inside meets R
  abbrev pub MaybePolls : (F → Option X → F → Type 0) → MaybeResolved X F → Option X → MaybeResolved X F → Type 0
  MaybePolls R (Resolved x) answer after = (answer ≡ Some x) × (after ≡ Empty)
  MaybePolls R Empty answer after = (answer ≡ None) × (after ≡ Empty)
  MaybePolls R (Pending f) answer after =
      (g : F) × (R f answer g × MatchOption answer (after ≡ Pending g) (λ _. after ≡ Empty))
