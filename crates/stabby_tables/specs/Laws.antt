-- The laws of the definitions.
use Rattle.std.specs.Prelude.{◌≡◌, ◌↔◌, ℕ, ◌<◌, ◌≤◌, ◌⊎◌, true, false, List, [], ◌∷◌, length, map, fold}
use Rattle.std.specs.Cmp.Lexicographic.{slice_cmp}
use Rattle.std.specs.Ordering.{nat_cmp, is_lt, is_eq}
use Rattle.stabby_tables.specs.Tables.{Table, is_before, is_same}
use Rattle.stabby_tables.specs.Lists.{has, with_table, distinct, place, increasing, IsRising, ordered, rank, entry_place, HoldsEachOnce, AppendsAbsent}
use Rattle.stabby_tables.specs.Shares.{InShare, IsFirstAt, IsFirstInShare}
use Rattle.stabby_tables.specs.Lines.{IsText, IsLines, IsBadLine}

-- `is_same` is equality, and of two tables one is before the other or they are the same
pub record IsTotalOrder : Type 0 where
  pub same : (a b : Table) → (is_same a b ≡ true) ↔ (a ≡ b)
  pub irreflexive : (a : Table) → is_before a a ≡ false
  pub transitive : (a b c : Table) → is_before a b ≡ true → is_before b c ≡ true → is_before a c ≡ true
  pub total : (a b : Table) → (is_before a b ≡ true) ⊎ ((a ≡ b) ⊎ (is_before b a ≡ true))

-- and the order is Rust's order of slices
pub record IsOrderOfSlices : Type 0 where
  pub before : (a b : Table) → is_before a b ≡ is_lt (slice_cmp nat_cmp a b)
  pub same : (a b : Table) → is_same a b ≡ is_eq (slice_cmp nat_cmp a b)

-- the derived lists have exactly the members of the list
pub record KeepMembers : Type 0 where
  pub distinct : (ts : List Table) (t : Table) → has (distinct ts) t ≡ has ts t
  pub increasing : (ts : List Table) (t : Table) → has (increasing ts) t ≡ has ts t

-- `increasing f` is strictly rising, and the only such list with the members of f
pub record IsTheRisingList : Type 0 where
  pub rising : (f : List Table) → IsRising (increasing f)
  pub unique : (f s : List Table) → IsRising s → ((t : Table) → has s t ≡ has f t) → s ≡ increasing f

-- a text has at most one list of lines, and spells at most one list of tables
pub record AreUnique : Type 0 where
  pub lines : (bytes : List ℕ) (lines others : List (List ℕ)) → IsText bytes lines → IsText bytes others → lines ≡ others
  pub tables : (bytes : List ℕ) (ts us : List Table) → IsLines bytes ts → IsLines bytes us → ts ≡ us
  pub bad_line : (bytes : List ℕ) (j k : ℕ) → IsBadLine bytes j → IsBadLine bytes k → j ≡ k

-- each text spells tables or has a first line that spells none, and never both
pub record ExactlyOneHolds : Type 0 where
  pub one : (bytes : List ℕ) → ((ts : List Table) × IsLines bytes ts) ⊎ ((k : ℕ) × IsBadLine bytes k)
  pub not_both : (bytes : List ℕ) (ts : List Table) (k : ℕ) → IsLines bytes ts → IsBadLine bytes k → ⊥

-- a table's rank is the place of its entry, so ranks and ordered tables are the same in whatever order tables were added
pub record RanksArePlaces : Type 0 where
  pub rank : (ts f : List Table) (t : Table) → HoldsEachOnce ts f → has ts t ≡ true → entry_place (ordered f) (place f t) ≡ rank (distinct ts) t
  pub same_ranks : (ts f g : List Table) → AppendsAbsent [] ts f → AppendsAbsent [] ts g
      → map (λ t. entry_place (ordered f) (place f t)) ts ≡ map (λ t. entry_place (ordered g) (place g t)) ts
  pub same_tables : (ts f g : List Table) → AppendsAbsent [] ts f → AppendsAbsent [] ts g
      → map (λ (e : Table × ℕ). e.0) (ordered f) ≡ map (λ e. e.0) (ordered g)

-- with one worker the tables that were absent stand in the order of their first appearance
pub record StandAsTheyAppeared : Type 0 where
  pub one_worker : (old ts new : List Table) → AppendsAbsent old ts new → IsFirstInShare (map (place new) ts) 1 (length old) → new ≡ fold with_table old ts

-- ten places among four workers: three, three, three and one
pub record SharesOfTen : Type 0 where
  pub first_place : InShare 10 4 0 0
  pub last_of_first : InShare 10 4 0 2
  pub none_of_next : InShare 10 4 0 3 → ⊥
  pub next : InShare 10 4 1 3
  pub none_of_former : InShare 10 4 1 2 → ⊥
  pub last_place : InShare 10 4 3 9
  pub none_past_the_end : InShare 10 4 3 10 → ⊥

-- the place has only smaller numbers before it in its share
pub record FirstPlaces : Type 0 where
  pub nothing_before : IsFirstAt (1 ∷ 0 ∷ []) 1 0
  pub smaller_before : IsFirstAt (0 ∷ 1 ∷ []) 1 1
  pub greater_before : IsFirstAt (1 ∷ 0 ∷ []) 1 1 → ⊥
  pub equal_before : IsFirstAt (0 ∷ 0 ∷ []) 1 1 → ⊥
  pub in_another_share : IsFirstAt (1 ∷ 0 ∷ []) 2 1

-- numbers from a limit on are met in rising order, in each share
pub record FirstNumbers : Type 0 where
  pub repeat : IsFirstInShare (0 ∷ 1 ∷ 0 ∷ []) 1 0
  pub falling : IsFirstInShare (1 ∷ 0 ∷ []) 1 0 → ⊥
  pub falling_across_shares : IsFirstInShare (1 ∷ 0 ∷ []) 2 0
  pub below_the_limit : IsFirstInShare (1 ∷ 0 ∷ []) 1 1
  pub from_the_limit : IsFirstInShare (0 ∷ 2 ∷ 1 ∷ []) 1 2
  pub at_the_limit : IsFirstInShare (0 ∷ 2 ∷ 1 ∷ []) 1 1 → ⊥

-- ---- small lists of tables
abbrev pub with_a_repeat : List Table
with_a_repeat = (1 ∷ 2 ∷ []) ∷ (3 ∷ []) ∷ (1 ∷ 2 ∷ []) ∷ []

abbrev pub fives_and_three : List Table
fives_and_three = (5 ∷ []) ∷ (3 ∷ []) ∷ (5 ∷ []) ∷ []

abbrev pub greatest : Table
greatest = 18446744073709551615 ∷ []

abbrev pub with_prefixes : List Table
with_prefixes = (1 ∷ []) ∷ (1 ∷ 0 ∷ []) ∷ (0 ∷ 9 ∷ []) ∷ [] ∷ []
