-- What is true of every host's plugins stays true where one is added, ends, or has other steps in its handle's record.
use Rattle.std.proofs.Common.{◌≡◌, ◌≢◌, ◌⊎◌, ◌↔◌, inl, inr, ℕ, zero, suc, ◌+◌, true, List, [], ◌∷◌, ◌++◌, length, set, Option, Some, None, refl, ap, sym, subst, ◌∙◌, arith}
use mathlib.Core.List.{IsPrefix}
use Rattle.std.specs.Prelude.{slice_get, Contains}
use Rattle.std.proofs.lemmas.Option.{none-some}
use Rattle.stabby_tables.specs.Lists.{IsDistinct, place}
use Rattle.stabby_tables.proofs.Distinctness.{place_is}
use Rattle.stabby_count.specs.declared.spent.Spent.{Spent}
use Rattle.stabby_count.specs.declared.strong.Arc.{Arc}
use Rattle.stabby_host.proofs.Places.{get_append, get_grown, get_prefix, get_set, same_some, set_other}
use Rattle.stabby_host.specs.Facts.{AreBoundToLive, AreNumbered, is_live}
use Rattle.stabby_host.specs.Plugins.{live_count, NeedsPlugin}
use Rattle.stabby_host.specs.declared.plugin.Loaded.{Loaded}
use Rattle.stabby_host.specs.declared.plugin.Plugin.{Plugin}
use Rattle.stabby_host.specs.declared.plugin.Plugin.TheVariants.{Live, Ended}

module _ {U : Type 0} where
  -- a live plugin is no ended one
  live_not_ended : (p : Loaded U) (left : Option Spent) → Ended left ≡ Live p → ⊥
  live_not_ended p left e = cc

  pub same_live : (p q : Loaded U) → Live p ≡ Live q → p ≡ q
  same_live p q e = cc

  pub live_count_grown : (plugins : List (Plugin U)) (p : Loaded U) → live_count (plugins ++ Live p ∷ []) ≡ live_count plugins + 1
  live_count_grown [] p = refl
  live_count_grown (Live q ∷ rest) p = let r = live_count_grown rest p in omega arith
  live_count_grown (Ended left ∷ rest) p = live_count_grown rest p

  pub live_count_ended : (plugins : List (Plugin U)) (i : ℕ) (p : Loaded U) (left : Option Spent) → slice_get plugins i ≡ Some (Live p)
      → live_count (set plugins i (Ended left)) + 1 ≡ live_count plugins
  live_count_ended [] i p left at = absurd (none-some (Live p) at)
  live_count_ended (Live q ∷ rest) zero p left at = refl
  live_count_ended (Ended other ∷ rest) zero p left at = absurd (live_not_ended p other (same_some (Ended other) (Live p) at))
  live_count_ended (Live q ∷ rest) (suc i) p left at = let r = live_count_ended rest i p left at in omega arith
  live_count_ended (Ended other ∷ rest) (suc i) p left at = live_count_ended rest i p left at

  pub live_count_changed : (plugins : List (Plugin U)) (i : ℕ) (p q : Loaded U) → slice_get plugins i ≡ Some (Live p)
      → live_count (set plugins i (Live q)) ≡ live_count plugins
  live_count_changed [] i p q at = absurd (none-some (Live p) at)
  live_count_changed (Live x ∷ rest) zero p q at = refl
  live_count_changed (Ended other ∷ rest) zero p q at = absurd (live_not_ended p other (same_some (Ended other) (Live p) at))
  live_count_changed (Live x ∷ rest) (suc i) p q at = let r = live_count_changed rest i p q at in omega arith
  live_count_changed (Ended other ∷ rest) (suc i) p q at = live_count_changed rest i p q at

  -- a live plugin is there
  pub live_there : (plugins : List (Plugin U)) (n : ℕ) (p : Loaded U) → slice_get plugins n ≡ Some (Live p) → is_live (slice_get plugins n) ≡ true
  live_there plugins n p at = ap is_live at

  there_by : (o : Option (Plugin U)) → is_live o ≡ true → (p : Loaded U) × (o ≡ Some (Live p))
  there_by None e = cc
  there_by (Some (Live p)) e = (p, refl)
  there_by (Some (Ended left)) e = cc

  pub live_is : (plugins : List (Plugin U)) (n : ℕ) → is_live (slice_get plugins n) ≡ true → (p : Loaded U) × (slice_get plugins n ≡ Some (Live p))
  live_is plugins n e = there_by (slice_get plugins n) e

  numbered_by : (tables grown : List (List ℕ)) (plugins : List (Plugin U)) (p q : Loaded U) (n : ℕ) → AreNumbered tables plugins → IsPrefix tables grown
      → slice_get grown p.number ≡ Some p.table
      → (slice_get plugins n ≡ Some (Live q)) ⊎ ((n ≡ length plugins) × (Live p ≡ Live q)) → slice_get grown q.number ≡ Some q.table
  numbered_by tables grown plugins p q n held longer new (inl at) = get_prefix tables grown q.number q.table longer (held n q at)
  numbered_by tables grown plugins p q n held longer new (inr last) = subst (λ (x : Loaded U). slice_get grown x.number ≡ Some x.table) (same_live p q last.1) new

  pub numbered_grown : (tables grown : List (List ℕ)) (plugins : List (Plugin U)) (p : Loaded U) → AreNumbered tables plugins → IsPrefix tables grown
      → slice_get grown p.number ≡ Some p.table → AreNumbered grown (plugins ++ Live p ∷ [])
  numbered_grown tables grown plugins p held longer new = λ n q at.
      numbered_by tables grown plugins p q n held longer new (get_grown plugins (Live p) n (Live q) at)

  numbered_ended_by : (tables : List (List ℕ)) (plugins : List (Plugin U)) (i n : ℕ) (left : Option Spent) (q : Loaded U) → AreNumbered tables plugins
      → ((slice_get plugins n ≡ Some (Live q)) × (n ≢ i)) ⊎ ((n ≡ i) × (Ended left ≡ Live q)) → slice_get tables q.number ≡ Some q.table
  numbered_ended_by tables plugins i n left q held (inl other) = held n q other.0
  numbered_ended_by tables plugins i n left q held (inr here) = absurd (live_not_ended q left here.1)

  pub numbered_ended : (tables : List (List ℕ)) (plugins : List (Plugin U)) (i : ℕ) (left : Option Spent) → AreNumbered tables plugins
      → AreNumbered tables (set plugins i (Ended left))
  numbered_ended tables plugins i left held = λ n q at. numbered_ended_by tables plugins i n left q held (get_set plugins i (Ended left) n (Live q) at)

  numbered_changed_by : (tables : List (List ℕ)) (plugins : List (Plugin U)) (i n : ℕ) (p q x : Loaded U) → AreNumbered tables plugins
      → slice_get tables q.number ≡ Some q.table
      → ((slice_get plugins n ≡ Some (Live x)) × (n ≢ i)) ⊎ ((n ≡ i) × (Live q ≡ Live x)) → slice_get tables x.number ≡ Some x.table
  numbered_changed_by tables plugins i n p q x held new (inl other) = held n x other.0
  numbered_changed_by tables plugins i n p q x held new (inr here) = subst (λ (y : Loaded U). slice_get tables y.number ≡ Some y.table) (same_live q x here.1) new

  -- a live plugin's handle took some steps
  pub numbered_changed : (tables : List (List ℕ)) (plugins : List (Plugin U)) (i : ℕ) (p : Loaded U) (handle : Arc U) → slice_get plugins i ≡ Some (Live p)
      → AreNumbered tables plugins → AreNumbered tables (set plugins i (Live (record p { handle = handle })))
  numbered_changed tables plugins i p handle at held = λ n x there.
      let q = record p { handle = handle } in
      numbered_changed_by tables plugins i n p q x held (held i p at) (get_set plugins i (Live q) n (Live x) there)

  -- a plugin that is live is so in a longer list
  live_append : (plugins more : List (Plugin U)) (m : ℕ) → is_live (slice_get plugins m) ≡ true → is_live (slice_get (plugins ++ more) m) ≡ true
  live_append plugins more m e = let p = live_is plugins m e in
      live_there (plugins ++ more) m p.0 (get_append plugins more m (Live p.0) p.1)

  bound_grown_by : (plugins : List (Plugin U)) (p q : Loaded U) (n m : ℕ) → AreBoundToLive plugins
      → ((k : ℕ) → Contains p.bound.items k → is_live (slice_get plugins k) ≡ true)
      → (slice_get plugins n ≡ Some (Live q)) ⊎ ((n ≡ length plugins) × (Live p ≡ Live q)) → Contains q.bound.items m
      → is_live (slice_get plugins m) ≡ true
  bound_grown_by plugins p q n m held new (inl at) has = held n m q at has
  bound_grown_by plugins p q n m held new (inr last) has = new m (subst (λ (x : Loaded U). Contains x.bound.items m) (sym (same_live p q last.1)) has)

  pub bound_grown : (plugins : List (Plugin U)) (p : Loaded U) → AreBoundToLive plugins
      → ((k : ℕ) → Contains p.bound.items k → is_live (slice_get plugins k) ≡ true) → AreBoundToLive (plugins ++ Live p ∷ [])
  bound_grown plugins p held new = λ n m q at has.
      live_append plugins (Live p ∷ []) m (bound_grown_by plugins p q n m held new (get_grown plugins (Live p) n (Live q) at) has)

  other_live : (plugins : List (Plugin U)) (i m : ℕ) (y : Plugin U) → m ≢ i → is_live (slice_get plugins m) ≡ true → is_live (slice_get (set plugins i y) m) ≡ true
  other_live plugins i m y other e = ap is_live (set_other plugins i m y other) ∙ e

  bound_ended_by : (plugins : List (Plugin U)) (i n m : ℕ) (left : Option Spent) (q : Loaded U) → AreBoundToLive plugins
      → ((j : ℕ) → ¬ NeedsPlugin plugins i j)
      → ((slice_get plugins n ≡ Some (Live q)) × (n ≢ i)) ⊎ ((n ≡ i) × (Ended left ≡ Live q)) → Contains q.bound.items m
      → is_live (slice_get (set plugins i (Ended left)) m) ≡ true
  bound_ended_by plugins i n m left q held free (inl other) has =
      other_live plugins i m (Ended left) (λ e. free n (Live q, other.0, subst (Contains q.bound.items) e has, other.1)) (held n m q other.0 has)
  bound_ended_by plugins i n m left q held free (inr here) has = absurd (live_not_ended q left here.1)

  stays_live : (plugins : List (Plugin U)) (i m : ℕ) (p q : Loaded U) → slice_get plugins i ≡ Some (Live p) → is_live (slice_get plugins m) ≡ true
      → is_live (slice_get (set plugins i (Live q)) m) ≡ true
  stays_live [] i m p q at live = absurd (none-some (Live p) at)
  stays_live (x ∷ rest) zero zero p q at live = refl
  stays_live (x ∷ rest) zero (suc m) p q at live = live
  stays_live (x ∷ rest) (suc i) zero p q at live = live
  stays_live (x ∷ rest) (suc i) (suc m) p q at live = stays_live rest i m p q at live

  bound_changed_by : (plugins : List (Plugin U)) (i n m : ℕ) (p x : Loaded U) (handle : Arc U) → AreBoundToLive plugins → slice_get plugins i ≡ Some (Live p)
      → ((slice_get plugins n ≡ Some (Live x)) × (n ≢ i)) ⊎ ((n ≡ i) × (Live (record p { handle = handle }) ≡ Live x)) → Contains x.bound.items m
      → is_live (slice_get plugins m) ≡ true
  bound_changed_by plugins i n m p x handle held at (inl other) has = held n m x other.0 has
  bound_changed_by plugins i n m p x handle held at (inr here) has =
      held i m p at (subst (λ (y : Loaded U). Contains y.bound.items m) (sym (same_live (record p { handle = handle }) x here.1)) has)

  -- a live plugin's handle took some steps
  pub bound_changed : (plugins : List (Plugin U)) (i : ℕ) (p : Loaded U) (handle : Arc U) → slice_get plugins i ≡ Some (Live p) → AreBoundToLive plugins
      → AreBoundToLive (set plugins i (Live (record p { handle = handle })))
  bound_changed plugins i p handle at held = λ n m x there has.
      let q = record p { handle = handle } in
      stays_live plugins i m p q at (bound_changed_by plugins i n m p x handle held at (get_set plugins i (Live q) n (Live x) there) has)

  -- a plugin that no live one is bound to ended
  pub bound_ended : (plugins : List (Plugin U)) (i : ℕ) (left : Option Spent) → AreBoundToLive plugins → ((j : ℕ) → ¬ NeedsPlugin plugins i j)
      → AreBoundToLive (set plugins i (Ended left))
  bound_ended plugins i left held free = λ n m q at has.
      bound_ended_by plugins i n m left q held free (get_set plugins i (Ended left) n (Live q) at) has

  -- Plugins have one number exactly where their tables are equal: each distinct table has one.
  pub one_number : (tables : List (List ℕ)) (plugins : List (Plugin U)) (n m : ℕ) (p q : Loaded U) → IsDistinct tables → AreNumbered tables plugins
      → slice_get plugins n ≡ Some (Live p) → slice_get plugins m ≡ Some (Live q) → (p.number ≡ q.number) ↔ (p.table ≡ q.table)
  one_number tables plugins n m p q once held at there =
      let first = held n p at in
      let second = held m q there in (
        λ e. same_some p.table q.table (sym first ∙ (ap (slice_get tables) e ∙ second)),
        λ e. sym (place_is tables p.table p.number once first) ∙ (ap (place tables) e ∙ place_is tables q.table q.number once second),
      )
