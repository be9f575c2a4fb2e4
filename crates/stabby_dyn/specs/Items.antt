-- What is taken from a list of items.
use Rattle.std.specs.Prelude.{◌≡◌, List, [], ◌∷◌, Option, MatchOption}

-- the first item was taken, or there was none
abbrev pub TakesFirst : {X : Type 0} → List X → Option X → List X → Type 0
TakesFirst before answer after = MatchOption answer ((before ≡ []) × (after ≡ [])) (λ item. before ≡ item ∷ after)
