-- What the functions over the steps say.
use Rattle.std.specs.Prelude.{◌≡◌, ◌≢◌, ℕ, ◌+◌, ◌-◌, ◌*◌, ◌<◌, ◌≤◌, ◌^◌, List, [], ◌∷◌, ◌++◌, map, take, length, Some, slice_get, slice_index, Bool, if◌then◌else◌, MatchBool}
use Rattle.atomic_table.specs.declared.shared.Seat.{Seat}
use Rattle.stabby_tables.specs.Lists.{IsDistinct}
use Rattle.stabby_row.specs.declared.view.Node.{Node}
use Rattle.stabby_row.specs.declared.view.Claim.{Claim}
use Rattle.stabby_row.specs.declared.view.View.{View}
use Rattle.stabby_row.specs.Rule.{StartsWith, table_of, last_link}
use Rattle.stabby_row.specs.Telling.{InRow}

abbrev pub P : Type 0
P = Seat ℕ View

abbrev pub view_of : P → View
view_of p = p.me.0

-- a seat that holds no slot, has some weight and knows how long the row is
pub record IsReady (p : P) : Type 0 where
  pub empty : p.me.1 ≡ []
  pub heavy : 1 ≤ (view_of p).weight
  pub wide : p.table_id.words ≡ (view_of p).room + 2
  pub small : (view_of p).room ≤ 2 ^ 28
  pub half : 2 * length (view_of p).nodes ≤ (view_of p).room
  pub apart : IsDistinct (map table_of (view_of p).nodes)

abbrev pub IsSameSeat : P → P → Type 0
IsSameSeat p q = (q.table_id ≡ p.table_id) × (q.id ≡ p.id)

-- the view after k loads of links, e of which found the end
abbrev pub after_walk : ℕ → ℕ → List Node → View → View
after_walk k e nodes v = record v { nodes = nodes; tally = record v.tally { walked = v.tally.walked + k; ends = v.tally.ends + e } }

-- the word `at` is the link behind the first n nodes
pub record Reached (v : View) (n at : ℕ) : Type 0 where
  pub inside : n ≤ length v.nodes
  pub here : at ≡ last_link 1 (take n v.nodes)
  pub in_row : at < v.room + 2

-- the node whose link word is `at` is the n-th
pub record Stood (v : View) (n at : ℕ) : Type 0 where
  pub node : Node
  pub rest : List Node
  pub inside : n < length v.nodes
  pub front : v.nodes ≡ take n v.nodes ++ node ∷ rest
  pub here : at ≡ node.at
  pub in_row : InRow v.room node

-- the n-th node has the table t, or another
abbrev pub HasTable : List ℕ → View → ℕ → ℕ → Type 0
HasTable t v n at = (s : Stood v n at) × (s.node.table ≡ t)

abbrev pub HasOther : List ℕ → View → ℕ → ℕ → Type 0
HasOther t v n at = (s : Stood v n at) × (s.node.table ≢ t)

-- the view with this claim
abbrev pub with_claim : ℕ → ℕ → List ℕ → View → View
with_claim start size written v = record v { claim = record { start = start; size = size; written = written } }

abbrev pub claim_with : ℕ → ℕ → List ℕ → Claim
claim_with start size written = record { start = start; size = size; written = written }

-- the n-th node has this table
abbrev pub IsAt : List ℕ → List Node → ℕ → Type 0
IsAt t nodes n = slice_get (map table_of nodes) n ≡ Some t

-- the words of a node
abbrev pub node_words : List ℕ → List ℕ
node_words t = 0 ∷ length t ∷ t

-- one view goes on to another by k loads of links, with no claim
pub record Moved (k : ℕ) (u v : View) : Type 0 where
  pub room : v.room ≡ u.room
  pub weight : v.weight ≡ u.weight
  pub left : v.left ≡ u.left
  pub claims : v.tally.claims ≡ u.tally.claims
  pub marks : v.tally.marks ≡ u.tally.marks
  pub seen_then : v.tally.seen_then ≡ u.tally.seen_then
  pub ends_then : v.tally.ends_then ≡ u.tally.ends_then
  pub walked : v.tally.walked ≡ u.tally.walked + k
  pub ends : u.tally.ends ≤ v.tally.ends
  pub front : StartsWith v.nodes u.nodes

-- the view with the claim written as the node of this table
abbrev pub with_node : ℕ → List ℕ → View → View
with_node start t v = with_claim start (2 + length t) (node_words t) v

-- the claim has a word left to write, at this place
abbrev pub HasRoomAt : View → ℕ → Type 0
HasRoomAt v at = (length v.claim.written < v.claim.size) × (at < v.room + 2)

-- a load of a link showed the n-th node, and the front has so many nodes then
abbrev pub ShowsNode : View → View → ℕ → ℕ → ℕ → Type 0
ShowsNode u v long n link = (v ≡ after_walk 1 0 v.nodes u) × StartsWith v.nodes u.nodes × (length v.nodes ≡ long) × Stood v n (link - 1)

-- an exchange hung the own node, or found that another's is the n-th
abbrev pub HungOwn : View → View → ℕ → List ℕ → Type 0
HungOwn u v start t = Moved 0 u v × (v.nodes ≡ u.nodes ++ record { at = start; table = t } ∷ [])

abbrev pub LostTo : View → View → ℕ → ℕ → Type 0
LostTo u v n link = (v ≡ record u { nodes = v.nodes }) × StartsWith v.nodes u.nodes × (length v.nodes ≡ n + 1) × Stood v n (link - 1)

-- the length, and the i-th word, of the node whose link word is `at`
abbrev pub IsSizeAt : View → ℕ → ℕ → Type 0
IsSizeAt v at r = (done todo : List Node) (x : Node) → v.nodes ≡ done ++ x ∷ todo → at ≡ x.at → r ≡ length x.table

abbrev pub IsWordAt : View → ℕ → ℕ → ℕ → Type 0
IsWordAt v at i r = (done todo : List Node) (x : Node) → v.nodes ≡ done ++ x ∷ todo → at ≡ x.at → i < length x.table → r ≡ slice_index x.table i

-- whether the n-th node has the table t
abbrev pub TellsTable : List ℕ → View → ℕ → ℕ → Bool → Type 0
TellsTable t v n at told = MatchBool told (HasTable t v n at) (HasOther t v n at)

-- a walk of k loads of links, the last of which found the end unless what was looked for was found
abbrev pub WalksTo : View → View → ℕ → Bool → Type 0
WalksTo u v k found = v ≡ after_walk k (if found then 0 else 1) v.nodes u

abbrev pub FrontGrows : View → View → ℕ → ℕ → ℕ → Type 0
FrontGrows u v seen low high = StartsWith v.nodes u.nodes × (seen ≡ length v.nodes) × (low ≤ high)

-- a walk stopped at the n-th node, which has the table t, or at the end
abbrev pub StopsAt : List ℕ → View → Bool → ℕ → ℕ → ℕ → Type 0
StopsAt t v found n at seen = MatchBool found (HasTable t v n at) (Reached v n at × (n ≡ seen))

-- a walk stopped at the node of this number, or at the end before it
abbrev pub StopsBy : ℕ → View → Bool → ℕ → ℕ → ℕ → Type 0
StopsBy number v found n at seen = MatchBool found ((n ≡ number) × Stood v n at) ((n ≡ seen) × (n ≤ number))

-- from the link behind `count` nodes the view moved on to the n-th node
abbrev pub MovesTo : View → View → ℕ → ℕ → ℕ → Type 0
MovesTo u v count n seen = (count ≤ n) × Moved (n - count) u v × (seen ≡ length v.nodes) × (n < seen)
