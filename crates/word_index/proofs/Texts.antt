-- A text is put together from the left.
use Rattle.std.proofs.Common.{◌≡◌, ℕ, List, ◌++◌, ap, ◌∙◌, append_assoc}

pub join : (o p r a b : List ℕ) → p ≡ o ++ a → r ≡ p ++ b → r ≡ o ++ (a ++ b)
join o p r a b e f = f ∙ ap (λ (l : List ℕ). l ++ b) e ∙ append_assoc o a b
