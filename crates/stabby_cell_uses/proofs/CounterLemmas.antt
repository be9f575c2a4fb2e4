-- What a counter shows after so many commits.
use Rattle.std.proofs.Common.{◌≡◌, ℕ, ◌+◌, List, [], ◌∷◌, length, ap, arith}
use Rattle.stabby_cell_uses.specs.declared.counter.Counter.{Counter}
use Rattle.stabby_cell_uses.specs.Counting.{RaisesByOne}
use Rattle.stabby_cell.specs.Rule.{Reached}

-- each entry raised the number by one
pub number_reached : (u v : Counter) (es : List ℕ) → Reached (λ old e new. RaisesByOne old.number e new.number) u es v → v.number ≡ u.number + length es
number_reached u v [] h = let k = ap (λ (c : Counter). c.number) h in omega arith
number_reached u v (e ∷ es) h = let k = h.1.0 in let m = number_reached h.0 v es h.2 in omega arith
