-- The word that says how many versions are kept.
use Rattle.std.specs.Prelude.{◌≡◌, ◌≤◌, ℕ, List, [], ◌∷◌}
use Rattle.stabby_tables.specs.Lines.{SpellsWord}

-- one word, a number from 1 to 1,024
pub record IsKeep (words : List (List ℕ)) (keep : ℕ) : Type 0 where
  pub word : List ℕ
  pub alone : words ≡ word ∷ []
  pub spells : SpellsWord word keep
  pub some : 1 ≤ keep
  pub few : keep ≤ 1024

abbrev pub IsNoKeep : List (List ℕ) → Type 0
IsNoKeep words = (keep : ℕ) → IsKeep words keep → ⊥
