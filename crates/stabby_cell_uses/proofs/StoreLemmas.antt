-- What the stores of two passes say of the history.
use Rattle.std.proofs.Common.{◌≡◌, ◌⊎◌, inl, inr, ℕ, List, [], Option, Some, None, refl}
use mathlib.Core.List.{IsPrefix}
use Rattle.std.specs.declared.sync.Arc.{Arc}
use Rattle.std.specs.declared.alloc.Global.{Global}
use Rattle.stabby_cell.specs.declared.chronicle.Chronicle.{Ghosts}
use Rattle.stabby_cell.specs.declared.pass.Pass.{Pass}
use Rattle.stabby_cell.specs.Recording.{ViewAdvances}
use Rattle.stabby_cell.specs.Passes.{view_of, front_of, first_stamp_of, stamp_of, commits_of, weight_of, Looked, AddedNoCommit, Committed, Joined, IsEachOnce}
use Rattle.stabby_cell.proofs.RecordLemmas.{advances_none}
use Rattle.stabby_cell_uses.specs.Stores.{StoredAt, StoresNumber, StoredOnly, HoldsOnly}
use Rattle.stabby_cell_uses.proofs.CommitLemmas.{get_prefix, get_last, each_none, each_kept, each_looked, each_committed, each_joined, each_entry}

stored_later : (n : ℕ) (xs ys : List (Option ℕ)) (i : ℕ) → StoredAt n xs i → IsPrefix xs ys → StoredAt n ys i
stored_later n xs ys i e p = get_prefix xs ys i (Some n) p e

module _ {g : Ghosts (Option (Arc ℕ Global)) (Option ℕ)} (n : ℕ) where
  pub stored_none : (p : Pass (Option (Arc ℕ Global)) (Option ℕ) g) → commits_of p ≡ [] → StoredOnly n p
  stored_none p none = each_none (StoredAt n) (stored_later n) p none

  pub stored_looked : (p q : Pass (Option (Arc ℕ Global)) (Option ℕ) g) → StoredOnly n p → Looked p q → StoredOnly n q
  stored_looked p q s a = each_looked (StoredAt n) (stored_later n) p q s a

  pub stored_by : (p q : Pass (Option (Arc ℕ Global)) (Option ℕ) g) (r : Option ℕ) → StoresNumber p q n r → StoredOnly n p → StoredOnly n q
  stored_by p q (Some stamp) h s = each_committed (StoredAt n) (stored_later n) p q h.0.0 (Some n) s h.0.1 (get_last h.0.0 (Some n))
  stored_by p q None h s = each_kept (StoredAt n) (stored_later n) p q s h

  pub front_by : (p q : Pass (Option (Arc ℕ Global)) (Option ℕ) g) (r : Option ℕ) → StoresNumber p q n r → IsPrefix (front_of p) (front_of q)
  front_by p q (Some stamp) h = ViewAdvances.front (Committed.advances h.0.1)
  front_by p q None h = ViewAdvances.front (AddedNoCommit.advances h)

  pub weight_by : (p q : Pass (Option (Arc ℕ Global)) (Option ℕ) g) (r : Option ℕ) → StoresNumber p q n r → weight_of q ≡ weight_of p
  weight_by p q (Some stamp) h = ViewAdvances.weight (Committed.advances h.0.1)
  weight_by p q None h = ViewAdvances.weight (AddedNoCommit.advances h)

-- a call that took no step
pub nothing_added : {V E : Type 0} {g : Ghosts V E} (p : Pass V E g) → AddedNoCommit p p
nothing_added p = record { steps = []; advances = advances_none (view_of p); no_commit = refl }

-- both passes joined are whole, so every entry is of one of the two
abbrev EitherAt : ℕ → ℕ → List (Option ℕ) → ℕ → Type 0
EitherAt a b entries i = StoredAt a entries i ⊎ StoredAt b entries i

either_later : (a b : ℕ) (xs ys : List (Option ℕ)) (i : ℕ) → EitherAt a b xs i → IsPrefix xs ys → EitherAt a b ys i
either_later a b xs ys i (inl e) p = inl (stored_later a xs ys i e p)
either_later a b xs ys i (inr e) p = inr (stored_later b xs ys i e p)

pub only_two : {g : Ghosts (Option (Arc ℕ Global)) (Option ℕ)} (a b : ℕ) (p other q : Pass (Option (Arc ℕ Global)) (Option ℕ) g) → StoredOnly a p → StoredOnly b other → Joined p other q → IsPrefix (front_of p) (front_of q) → IsPrefix (front_of other) (front_of q)
    → first_stamp_of other ≡ first_stamp_of p → IsEachOnce (first_stamp_of q) (stamp_of q) (commits_of q) → HoldsOnly a b (front_of q)
only_two a b p other q s u j first second same once = each_entry (EitherAt a b) q (each_joined (EitherAt a b) (either_later a b) p other q (λ t h. inl (s t h)) (λ t h. inr (u t h)) j first second same) once
