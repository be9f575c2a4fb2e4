-- What the words of a command ask for.
use Rattle.std.proofs.Common.{◌≡◌, ◌<◌, ◌≤◌, ℕ, List, [], ◌∷◌, length, ap, arith, get_or, refl}
use Rattle.stabby_intern.specs.declared.command.Task.{Task}
use Rattle.stabby_intern.specs.Commands.{IsCommand, IsGeneration}

-- no words ask for the input's tables and for generated ones
pub one_command : (words : List (List ℕ)) (task : Task) (workers tables divisor number : ℕ) → IsCommand words task workers → IsGeneration words tables divisor number → ⊥
one_command words task workers tables divisor number is also =
    let two : length words ≡ 2 = ap length is.words_are in
    let four : length words ≡ 4 = ap length also.words_are in
    absurd (omega (arith, two, four))

-- two words ask for no generated tables, and four for no others
pub two_words : (a b : List ℕ) (tables divisor number : ℕ) → IsGeneration (a ∷ b ∷ []) tables divisor number → ⊥
two_words a b tables divisor number is = let e : 2 ≡ 4 = ap length is.words_are in absurd (omega (arith, e))

pub four_words : (a b c d : List ℕ) (task : Task) (workers : ℕ) → IsCommand (a ∷ b ∷ c ∷ d ∷ []) task workers → ⊥
four_words a b c d task workers is = let e : 4 ≡ 2 = ap length is.words_are in absurd (omega (arith, e))

-- a list of four items
pub four_items : {X : Type 0} (xs : List X) (a b c d : X) → 4 ≤ length xs → length xs < 5 → a ≡ get_or xs 0 a → b ≡ get_or xs 1 b → c ≡ get_or xs 2 c → d ≡ get_or xs 3 d → xs ≡ a ∷ b ∷ c ∷ d ∷ []
four_items [] a b c d some few p q r s = absurd (omega arith)
four_items (x ∷ []) a b c d some few p q r s = absurd (omega arith)
four_items (x ∷ y ∷ []) a b c d some few p q r s = absurd (omega arith)
four_items (x ∷ y ∷ z ∷ []) a b c d some few p q r s = absurd (omega arith)
four_items (x ∷ y ∷ z ∷ w ∷ []) a b c d some few p q r s = rw (p, q, r, s) refl
four_items (x ∷ y ∷ z ∷ w ∷ v ∷ xs) a b c d some few p q r s = absurd (omega arith)
