-- The rule of the words. Word 0 has the claimed words and word 1 the first link. A node has its link word, its length, and then its table's words.
-- A link is 0 where it is empty, else one more than the place of the next node's link word.
use Rattle.std.specs.Prelude.{◌≡◌, ◌≢◌, ℕ, ◌+◌, ◌*◌, ◌<◌, ◌≤◌, ◌^◌, nat_lt, if◌then◌else◌, List, [], ◌∷◌, ◌++◌, length, slice_index}
use mathlib.Core.Option.{some}
use lib.ListN.{get_elem?}
use Rattle.atomic_table.specs.Table.{State}
use Rattle.stabby_row.specs.declared.view.Node.{Node}
use Rattle.stabby_row.specs.declared.view.Claim.{Claim}
use Rattle.stabby_row.specs.declared.view.Tally.{Tally}
use Rattle.stabby_row.specs.declared.view.View.{View}

-- f of each member, added up
abbrev pub total : {A : Type 0} → (A → ℕ) → List A → ℕ
total f [] = 0
total f (x ∷ xs) = f x + total f xs

abbrev pub StartsWith : {A : Type 0} → List A → List A → Type 0
StartsWith {A} xs ys = (rest : List A) × (xs ≡ ys ++ rest)

abbrev pub table_of : Node → List ℕ
table_of x = x.table

-- the words that a node takes
abbrev pub node_size : Node → ℕ
node_size x = 2 + length x.table

abbrev pub Absent : List ℕ → List Node → Type 0
Absent t [] = Unit {0}
Absent t (x ∷ xs) = (x.table ≢ t) × Absent t xs

abbrev pub Distinct : List Node → Type 0
Distinct [] = Unit {0}
Distinct (x ∷ xs) = Absent x.table xs × Distinct xs

-- the link word behind these nodes, the first of which hangs on the word `at`
abbrev pub last_link : ℕ → List Node → ℕ
last_link at [] = at
last_link at (x ∷ xs) = last_link x.at xs

-- `owner` says of each word whose it is: 2 k the k-th link of the chain and what follows it, 2 j + 1 the claim of seat j
module _ (words : List ℕ) (owner : ℕ → ℕ) (bound : ℕ) where
  pub record Stands (k : ℕ) (x : Node) : Type 0 where
    pub low : 2 ≤ x.at
    pub high : x.at + (2 + length x.table) ≤ bound
    pub own : (i : ℕ) → i < 2 + length x.table → owner (x.at + i) ≡ 2 * k + 2
    pub size : slice_index words (x.at + 1) ≡ length x.table
    pub content : (i : ℕ) → i < length x.table → slice_index words (x.at + (2 + i)) ≡ slice_index x.table i

  -- the words from the link `at` on, the k-th, spell these nodes
  abbrev pub Chain : ℕ → ℕ → List Node → Type 0
  Chain at k [] = slice_index words at ≡ 0
  Chain at k (x ∷ xs) = (slice_index words at ≡ x.at + 1) × Stands k x × Chain x.at (k + 1) xs

  pub record Fits (n : ℕ) (nodes : List Node) (id : ℕ) (v : View) : Type 0 where
    pub room : 1 ≤ v.weight → v.room ≡ n
    pub front : StartsWith nodes v.nodes
    pub told : StartsWith nodes v.told
    pub low : 2 ≤ v.claim.start
    pub high : v.claim.start + v.claim.size ≤ bound
    pub own : (i : ℕ) → i < v.claim.size → owner (v.claim.start + i) ≡ 2 * id + 1
    pub short : length v.claim.written ≤ v.claim.size
    pub content : (i : ℕ) → i < length v.claim.written → slice_index words (v.claim.start + i) ≡ slice_index v.claim.written i
    pub left : v.left ≤ slice_index words 0

abbrev pub weight_of : View → ℕ
weight_of v = v.weight

abbrev pub held : View → ℕ
held v = v.claim.size

-- the weight of a pass that knows that the row is full
abbrev pub informed : ℕ → View → ℕ
informed n v = if nat_lt n v.left then v.weight else 0

-- some view of weight 1 or more has all nodes
pub record Led (views : List View) (nodes : List Node) : Type 0 where
  pub leader : ℕ
  pub best : View
  pub seated : get_elem? views leader ≡ some best
  pub leads : 1 ≤ best.weight
  pub whole : best.nodes ≡ nodes

pub record RowRule (n : ℕ) (s : State ℕ View) : Type 0 where
  pub nodes : List Node
  pub owner : ℕ → ℕ
  pub top : ℕ
  pub wide : length s.words ≡ n + 2
  pub small : n ≤ 2 ^ 28
  pub below : top ≤ slice_index s.words 0
  pub within : top ≤ n
  pub root : owner 1 ≡ 0
  pub chain : Chain s.words owner (top + 2) 1 0 nodes
  pub distinct : Distinct nodes
  pub used : total node_size nodes + total held s.views ≤ top
  pub weights : total weight_of s.views ≡ 2 ^ 32
  pub bounded : slice_index s.words 0 ≤ n + n * total (informed n) s.views
  pub led : Led s.views nodes
  pub each : (j : ℕ) (v : View) → get_elem? s.views j ≡ some v → Fits s.words owner (top + 2) n nodes j v

abbrev pub no_claim : Claim
no_claim = record { start = 2; size = 0; written = [] }

abbrev pub no_tally : List ℕ → Tally
no_tally marks = record { walked = 0; ends = 0; claims = 0; marks = marks; seen_then = 0; ends_then = 0; asked = 0 }

abbrev pub opening_view : ℕ → View
opening_view n = record { room = n; nodes = []; told = []; weight = 2 ^ 32; left = 0; claim = no_claim; tally = no_tally [] }
