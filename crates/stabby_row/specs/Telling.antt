-- What each step tells.
use Rattle.std.specs.Prelude.{◌≡◌, ℕ, ◌+◌, ◌-◌, ◌*◌, ◌<◌, ◌≤◌, ◌^◌, nat_lt, max, if◌then◌else◌, List, [], ◌∷◌, ◌++◌, map, drop, length, slice_index}
use Rattle.atomic_table.specs.Table.{Me, Step}
use Rattle.stabby_tables.specs.Lists.{IsDistinct}
use Rattle.stabby_row.specs.declared.view.Node.{Node}
use Rattle.stabby_row.specs.declared.view.Claim.{Claim}
use Rattle.stabby_row.specs.declared.view.Tally.{Tally}
use Rattle.stabby_row.specs.declared.view.View.{View}
use Rattle.stabby_row.specs.Rule.{StartsWith, table_of, last_link, no_claim, no_tally}

abbrev M : Type 0
M = Me ℕ View

abbrev pub noting : ℕ → View → View
noting k v = record v { tally = record v.tally { asked = k } }

abbrev pub walking : View → View
walking v = record v { tally = record v.tally { walked = v.tally.walked + 1 } }

abbrev pub ending : View → View
ending v = record v { tally = record v.tally { walked = v.tally.walked + 1; ends = v.tally.ends + 1 } }

abbrev pub covering : Node → View → View
covering x v = record v { nodes = v.nodes ++ x ∷ [] }

abbrev pub writing : ℕ → View → View
writing x v = record v { claim = record v.claim { written = v.claim.written ++ x ∷ [] } }

abbrev pub claim_at : ℕ → ℕ → ℕ → Claim
claim_at room found size = if nat_lt room (found + size) then no_claim else record { start = found + 2; size = size; written = [] }

abbrev claim_tally : ℕ → ℕ → View → Tally
claim_tally found size v = record v.tally { claims = v.tally.claims + 1; marks = v.tally.marks ++ found ∷ (found + size) ∷ []; seen_then = length v.nodes; ends_then = v.tally.ends }

abbrev pub claiming : ℕ → ℕ → View → View
claiming found size v = record v { left = found + size; claim = claim_at v.room found size; tally = claim_tally found size v }

-- the node that the claim has become
abbrev pub own_node : View → Node
own_node v = record { at = v.claim.start; table = drop 2 v.claim.written }

abbrev pub winning : View → View
winning v = record v { nodes = v.nodes ++ own_node v ∷ []; claim = no_claim }

-- a node lies within the row, and the row has no more nodes than half its words
pub record InRow (room : ℕ) (x : Node) : Type 0 where
  pub low : 2 ≤ x.at
  pub high : x.at + (2 + length x.table) ≤ room + 2

abbrev pub noted : Step ℕ → M → ℕ → M → Type 0
noted st m r m' = m' ≡ (noting st.first m.0, m.1)

-- a link within the front
abbrev pub walked : Step ℕ → M → ℕ → M → Type 0
walked st m r m' = (m' ≡ (walking m.0, m.1))
    × ((done todo : List Node) (x : Node) → m.0.nodes ≡ done ++ x ∷ todo → st.word ≡ last_link 1 done → (r ≡ x.at + 1) × InRow m.0.room x)

abbrev pub Covers : M → ℕ → (View → View) → M → Type 0
Covers m r counted m' = (x : Node) × (r ≡ x.at + 1) × (m' ≡ (counted (covering x m.0), m.1)) × InRow m.0.room x × (2 * length m'.0.nodes ≤ m.0.room) × IsDistinct (map table_of m'.0.nodes)

-- the link past the front
abbrev pub passed : Step ℕ → M → ℕ → M → Type 0
passed st m r m' = (r ≡ 0 → m' ≡ (ending m.0, m.1)) × (0 < r → Covers m r walking m')

abbrev pub sized : Step ℕ → M → ℕ → M → Type 0
sized st m r m' = (m' ≡ m) × ((done todo : List Node) (x : Node) → m.0.nodes ≡ done ++ x ∷ todo → st.word ≡ x.at + 1 → r ≡ length x.table)

abbrev pub read : Step ℕ → M → ℕ → M → Type 0
read st m r m' = (m' ≡ m)
    × ((done todo : List Node) (x : Node) (i : ℕ) → m.0.nodes ≡ done ++ x ∷ todo → st.word ≡ x.at + (2 + i) → i < length x.table → r ≡ slice_index x.table i)

abbrev pub wrote : Step ℕ → M → ℕ → M → Type 0
wrote st m r m' = m' ≡ (writing st.first m.0, m.1)

abbrev pub claimed : Step ℕ → M → ℕ → M → Type 0
claimed st m r m' = (m' ≡ (claiming r st.first m.0, m.1)) × (r + st.first < 2 ^ 64)

abbrev same : View → View
same v = v

abbrev pub linked : Step ℕ → M → ℕ → M → Type 0
linked st m r m' = (r ≡ 0 → (m' ≡ (winning m.0, m.1)) × (2 * length m'.0.nodes ≤ m.0.room) × IsDistinct (map table_of m'.0.nodes)) × (0 < r → Covers m r same m')

-- what the pass was told of begins its front, and no pass has more than the whole weight
abbrev pub learned : Step ℕ → M → ℕ → M → Type 0
learned st m r m' = (m' ≡ m) × (length m.0.told ≤ length m.0.nodes → StartsWith m.0.nodes m.0.told) × (m.0.weight ≤ 2 ^ 32)

-- a pass of the noted weight is cut off
abbrev pub left_of : View → View
left_of v = record v { weight = v.weight - v.tally.asked }

abbrev pub right_of : View → View
right_of v = record v { weight = v.tally.asked; told = []; claim = no_claim; tally = no_tally v.tally.marks }

abbrev pub longer_of : List Node → List Node → List Node
longer_of xs ys = if nat_lt (length xs) (length ys) then ys else xs

abbrev pub shorter_of : List Node → List Node → List Node
shorter_of xs ys = if nat_lt (length xs) (length ys) then xs else ys

abbrev pub both_of : View → View → View
both_of v w = record {
  room = v.room;
  nodes = longer_of v.nodes w.nodes;
  told = shorter_of v.nodes w.nodes;
  weight = v.weight + w.weight;
  left = max v.left w.left;
  claim = v.claim;
  tally = record { walked = v.tally.walked + w.tally.walked; ends = v.tally.ends + w.tally.ends; claims = v.tally.claims + w.tally.claims; marks = v.tally.marks ++ w.tally.marks; seen_then = v.tally.seen_then; ends_then = v.tally.ends_then; asked = 0 };
}

abbrev pub spent : View
spent = record { room = 0; nodes = []; told = []; weight = 0; left = 0; claim = no_claim; tally = no_tally [] }
