-- What an insert does to the view of its seat.
use Rattle.std.specs.Prelude.{◌≡◌, ◌⊎◌, ℕ, ◌+◌, ◌<◌, ◌≤◌, List, [], ◌∷◌, ◌++◌, take, length}
use Rattle.stabby_row.specs.declared.view.View.{View}
use Rattle.stabby_row.specs.declared.row.RowFull.{RowFull}
use Rattle.stabby_row.specs.Rule.{StartsWith, Absent}
use Rattle.stabby_row.specs.Seats.{IsAt}

-- one view goes on to another by k loads of links
pub record Grown (k : ℕ) (u v : View) : Type 0 where
  pub room : v.room ≡ u.room
  pub weight : v.weight ≡ u.weight
  pub walked : v.tally.walked ≡ u.tally.walked + k
  pub ends : u.tally.ends ≤ v.tally.ends
  pub front : StartsWith v.nodes u.nodes

-- no claim was made
pub record Unclaimed (u v : View) : Type 0 where
  pub left : v.left ≡ u.left
  pub claims : v.tally.claims ≡ u.tally.claims
  pub marks : v.tally.marks ≡ u.tally.marks

-- one claim was made, first of all
pub record Claimed (found needed : ℕ) (u v : View) : Type 0 where
  pub left : v.left ≡ found + needed
  pub claims : v.tally.claims ≡ u.tally.claims + 1
  pub marks : v.tally.marks ≡ u.tally.marks ++ found ∷ (found + needed) ∷ []
  pub seen_then : v.tally.seen_then ≡ length u.nodes
  pub ends_then : v.tally.ends_then ≡ u.tally.ends

-- one claim was made, once the end was found and the front had not the table
pub record ClaimedAtEnd (t : List ℕ) (found : ℕ) (u v : View) : Type 0 where
  pub left : v.left ≡ found + (2 + length t)
  pub claims : v.tally.claims ≡ u.tally.claims + 1
  pub marks : v.tally.marks ≡ u.tally.marks ++ found ∷ (found + (2 + length t)) ∷ []
  pub ended : (u.tally.ends < v.tally.ends_then) × (v.tally.ends_then ≤ v.tally.ends)
  pub seen : (length u.nodes ≤ v.tally.seen_then) × (v.tally.seen_then ≤ length v.nodes)
  pub absent : Absent t (take v.tally.seen_then v.nodes)

-- at most one claim was made
abbrev pub ClaimsOnce : List ℕ → View → View → Type 0
ClaimsOnce t u v = Unclaimed u v ⊎ ((found : ℕ) × ClaimedAtEnd t found u v)

-- why the row counts as full at this number of claimed words: it is 0, or remembered, or the own claim found it
abbrev pub Cause : ℕ → ℕ → ℕ → View → View → Type 0 → Type 0
Cause words claimed needed u v own =
    ((claimed ≡ 0) × (words < needed) × Unclaimed u v)
    ⊎ (((0 < u.left) × (claimed ≡ u.left) × Unclaimed u v) ⊎ own)

pub record Full (words : ℕ) (t : List ℕ) (claimed needed : ℕ) (u v : View) (own : Type 0) : Type 0 where
  pub size : needed ≡ 2 + length t
  pub over : words < claimed + needed
  pub absent : Absent t v.nodes
  pub cause : Cause words claimed needed u v own

-- the number of nodes seen, what a claim left, and that the n-th link is no farther
abbrev pub IsCounted : View → ℕ → ℕ → ℕ → Type 0
IsCounted v seen left n = (seen ≡ length v.nodes) × (left ≡ v.left) × (n ≤ seen)

-- the claimed node, or another's with the same table, is the n-th, and its number is k
abbrev pub PlacesNew : List ℕ → View → View → ℕ → ℕ → Type 0
PlacesNew t u v n k = (k ≡ n) × IsAt t v.nodes k × ((found : ℕ) × Claimed found (2 + length t) u v)

-- the row is full, as found behind all nodes, and after a walk as far as the end
abbrev pub FindsFull : ℕ → List ℕ → View → View → Type 0 → RowFull → Type 0
FindsFull words t u v further f = Full words t f.claimed f.needed u v (Claimed f.claimed f.needed u v) × further

abbrev pub EndsFull : ℕ → List ℕ → View → View → Type 0 → RowFull → Type 0
EndsFull words t u v further f = Full words t f.claimed f.needed u v (ClaimedAtEnd t f.claimed u v) × (u.tally.ends < v.tally.ends) × further
