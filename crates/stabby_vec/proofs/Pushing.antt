-- Pushing item by item.
use Rattle.std.proofs.Common.{◌≡◌, List, [], ◌∷◌, ◌++◌, refl, sym, ap, ◌∙◌, Result, Ok, Err}
use Rattle.stabby_vec.specs.Sequence.{Sequence, with_pushed, pushed}
use Rattle.stabby_vec.specs.Singles.{Single, single_pushed, single_pushed_all}

module _ {T : Type 0} where
  -- a push of one more
  pub pushed_more : (s : Sequence T) (xs : List T) (x : T) → pushed s (xs ++ x ∷ []) ≡ with_pushed (pushed s xs) x
  unfolding pushed
  pushed_more s [] x = refl
  pushed_more s (y ∷ xs) x = pushed_more (with_pushed s y) xs x

  -- a push of nothing
  pub pushed_none : (s : Sequence T) → pushed s [] ≡ s
  unfolding pushed
  pushed_none s = refl

  -- the same two of a `SingleOrVec`
  pub single_pushed_more : (s : Single T) (xs : List T) (x : T) → single_pushed_all s (xs ++ x ∷ []) ≡ single_pushed (single_pushed_all s xs) x
  unfolding single_pushed_all
  single_pushed_more s [] x = refl
  single_pushed_more s (y ∷ xs) x = single_pushed_more (single_pushed s y) xs x

  pub single_pushed_none : (s : Single T) → single_pushed_all s [] ≡ s
  unfolding single_pushed_all
  single_pushed_none s = refl

module _ {T E : Type 0} where
  abbrev error_or : E → Result T E → E
  error_or default (Ok value) = default
  error_or default (Err error) = error

  -- an answer has one error
  pub error_is : (r : Result T E) (x y : E) → r ≡ Err x → r ≡ Err y → x ≡ y
  error_is r x y one other = ap (error_or x) (sym one ∙ other)
