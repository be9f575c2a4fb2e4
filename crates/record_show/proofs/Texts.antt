-- A text is put together from the left.
use Rattle.std.proofs.Common.{◌≡◌, ◌+◌, ◌*◌, ℕ, zero, suc, List, [], ◌∷◌, ◌++◌, replicate, refl, arith, ap, ◌∙◌, append_assoc, append-nil}

pub join : (o p r a b : List ℕ) → p ≡ o ++ a → r ≡ p ++ b → r ≡ o ++ (a ++ b)
join o p r a b e f = f ∙ ap (λ (l : List ℕ). l ++ b) e ∙ append_assoc o a b

one_space : (n : ℕ) (t : List ℕ) → replicate n 32 ++ (32 ∷ t) ≡ 32 ∷ (replicate n 32 ++ t)
one_space zero t = refl
one_space (suc n) t = ap (λ (l : List ℕ). 32 ∷ l) (one_space n t)

pub two_spaces : (n : ℕ) → replicate (2 * n) 32 ++ (32 ∷ 32 ∷ []) ≡ replicate {A = ℕ} (2 * (n + 1)) 32
two_spaces n =
    let spaces : List ℕ = replicate (2 * n) 32 in
    let a = one_space (2 * n) (32 ∷ []) in
    let b = one_space (2 * n) [] in
    let e : suc (suc (2 * n)) ≡ 2 * (n + 1) = omega arith in
    a ∙ ap (λ (l : List ℕ). 32 ∷ l) b ∙ ap (λ (l : List ℕ). 32 ∷ 32 ∷ l) (append-nil spaces) ∙ ap (λ (k : ℕ). replicate {A = ℕ} k 32) e
