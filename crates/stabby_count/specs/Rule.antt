-- The rule of the count word: what holds between any two steps, of the word and of all views.
use Rattle.std.specs.Prelude.{◌≡◌, ℕ, ◌+◌, ◌^◌, ◌<◌, ◌≤◌, ◌==◌, if◌then◌else◌, List, All, sum_by}
use Rattle.stabby_count.specs.Handles.{Handles, handles, weak_count, word_of}
use Rattle.stabby_count.specs.declared.machine.ValueState.{ValueState}
use Rattle.stabby_count.specs.declared.machine.ValueState.TheVariants.{Live, Taken, Released}
use Rattle.stabby_count.specs.declared.view.View.{View}

-- what all views have together
pub record Totals : Type 0 where
  pub strong : ℕ
  pub weak : ℕ
  pub due : ℕ
  pub free : ℕ
  pub sole : ℕ

abbrev pub totals_of : List View → Totals
totals_of views = record {
  strong = sum_by (λ v. v.strong) views;
  weak = sum_by (λ v. v.weak) views;
  due = sum_by (λ v. v.due) views;
  free = sum_by (λ v. v.free) views;
  sole = sum_by (λ v. v.sole) views;
}

-- the value is there exactly where there is a strong view or a due one
abbrev pub value_of : ℕ → ℕ → ℕ → ValueState
value_of strong weak due = if strong + due == 0 then (if weak == 0 then Released else Taken) else Live

-- the handle machine that the views make together
abbrev pub machine_of_totals : Totals → Handles
machine_of_totals all = handles all.strong all.weak (value_of all.strong all.weak all.due)

abbrev pub machine_of : List View → Handles
machine_of views = machine_of_totals (totals_of views)

-- the word is the machine's, and the rights of single views exclude one another
pub record IsCount (n : ℕ) (all : Totals) : Type 0 where
  pub word : n ≡ word_of (machine_of_totals all)
  pub strong_fits : all.strong < 2 ^ 32
  pub weak_fits : weak_count (machine_of_totals all) < 2 ^ 32
  pub one_due : all.due ≤ 1
  pub due_alone : 0 < all.due → all.strong ≡ 0
  pub one_free : all.free ≤ 1
  pub free_alone : 0 < all.free → all.strong + all.weak + all.due ≡ 0
  pub sole_alone : 0 < all.sole → (all.sole ≡ 1) × (all.strong ≡ 1) × (all.weak ≡ 0)

-- a sole view has the one strong share, and one that is due or may free has no share
pub record IsSound (v : View) : Type 0 where
  pub sole : v.sole ≤ v.strong
  pub due : 0 < v.due → v.strong + v.weak ≡ 0
  pub free : 0 < v.free → v.strong + v.weak ≡ 0

pub record Rule (n : ℕ) (views : List View) : Type 0 where
  pub count : IsCount n (totals_of views)
  pub sound : All IsSound views
