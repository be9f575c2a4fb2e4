-- How many versions a turn has out.
use Rattle.std.proofs.Common.{◌≡◌, ℕ, ◌+◌, min, List, ◌∷◌, length, Option, Some, sym, ap, ◌∙◌}
use Rattle.std.proofs.lemmas.Option.{same_Some}
use Rattle.stabby_cell.specs.declared.kept.Older.{Older}
use Rattle.stabby_cell.specs.Inside.{HasOut}
use Rattle.stabby_cell.specs.Rule.{KeepsLast, HasLast, items_in}

module _ {V E : Type 0} (next : V → E → V → Type 0) where
  pub older_count : (older : Option (Older V)) (x u : V) (keep : ℕ) (es : List E) (o : Older V) → HasOut older x (HasLast next u keep es) → older ≡ Some o → length (x ∷ items_in o) ≡ min keep (length es + 1)
  older_count older x u keep es o h is =
      let those : h.those ≡ o = same_Some h.those o (sym h.are ∙ is) in
      ap (λ (z : Older V). length (x ∷ items_in z)) (sym those) ∙ KeepsLast.count (HasLast.last h.fact)
