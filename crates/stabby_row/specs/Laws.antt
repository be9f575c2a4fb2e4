-- What the rule says of a row as a whole, and of what each kind of step does to it.
use Rattle.std.specs.Prelude.{◌≡◌, ◌≢◌, ℕ, ◌+◌, ◌*◌, ◌%◌, ◌^◌, ◌<◌, ◌≤◌, Bool, eqb, List, [], ◌∷◌, ◌++◌, length, slice_index}
use mathlib.Core.Option.{none, some}
use lib.ListN.{get_elem?}
use prog.Atomic.{either}
use Rattle.atomic_table.specs.Table.{State, Me, step, keeps, stepped}
use Rattle.stabby_row.specs.declared.view.Node.{Node}
use Rattle.stabby_row.specs.declared.view.View.{View}
use Rattle.stabby_row.specs.Rule.{RowRule, StartsWith, Absent, last_link, total, weight_of}
use Rattle.stabby_row.specs.Telling.{InRow, noted, walked, passed, sized, read, wrote, claimed, linked, learned}

abbrev pub St : Type 0
St = State ℕ View

abbrev pub M : Type 0
M = Me ℕ View

-- the words from the one at `start` on, `size` of them, and those from `other` on have none in common
abbrev pub Apart : ℕ → ℕ → ℕ → ℕ → Type 0
Apart start size other more = (i j : ℕ) → i < size → j < more → start + i ≢ other + j

module _ (n : ℕ) where
  -- the rule holds again, the row's nodes begin with those before, and no claimed word was given back
  abbrev pub Grown : (s s' : St) → RowRule n s → Type 0
  Grown s s' r = (r' : RowRule n s') × StartsWith r'.nodes r.nodes × (slice_index s.words 0 ≤ slice_index s'.words 0)

  -- a step of the seat `id` on the word i, which becomes what f makes of it: the row grows or stays, and `then` is told
  abbrev pub Advances : ℕ → ℕ → M → ℕ → (ℕ → ℕ) → (ℕ → M → Type 0) → Type 0
  Advances slots id me i f then = (s : St) (r : RowRule n s) → get_elem? s.views id ≡ some me.0
      → (w : View) × Grown s (stepped s i (f (slice_index s.words i)) id me.1 w keeps) r × then (slice_index s.words i) (w, me.1)

  -- each kind of step on the words keeps the rule
  pub record EachStepKeepsTheRule : Type 0 where
    -- a claim, by a pass that doesn't know that the row is full
    pub claim : (slots id : ℕ) (me : M) (k : ℕ) → 1 ≤ me.0.weight → me.0.left ≤ me.0.room → k ≤ me.0.room
        → Advances slots id me 0 (λ x. (x + k) % 2 ^ 64) (claimed (step slots 0 k 0 none) me)
    -- a store of the next word of the seat's own claim
    pub own_store : (slots id : ℕ) (me : M) (p x : ℕ) → p ≡ me.0.claim.start + length me.0.claim.written → length me.0.claim.written < me.0.claim.size
        → Advances slots id me p (λ _. x) (λ _. wrote (step slots p x 0 none) me x)
    -- a load of a link within the front, and of the one past it
    pub link_within : (slots id : ℕ) (me : M) (p : ℕ) → 1 ≤ me.0.weight → Advances slots id me p (λ x. x) (walked (step slots p 0 0 none) me)
    pub link_past : (slots id : ℕ) (me : M) (p : ℕ) → 1 ≤ me.0.weight → p ≡ last_link 1 me.0.nodes
        → Advances slots id me p (λ x. x) (passed (step slots p 0 0 none) me)
    -- a load of a node's length, and of a word of its table
    pub length_load : (slots id : ℕ) (me : M) (p : ℕ) → Advances slots id me p (λ x. x) (sized (step slots p 0 0 none) me)
    pub content : (slots id : ℕ) (me : M) (p : ℕ) → Advances slots id me p (λ x. x) (read (step slots p 0 0 none) me)
    -- the exchange of the link past the front for the seat's own written node, won or lost
    pub link : (slots id : ℕ) (me : M) (p new : ℕ) (t : List ℕ) → new ≡ me.0.claim.start + 1 → p ≡ last_link 1 me.0.nodes → 1 ≤ me.0.weight
        → me.0.claim.written ≡ 0 ∷ length t ∷ t → me.0.claim.size ≡ 2 + length t → Absent t me.0.nodes
        → Advances slots id me p (λ x. either (eqb x 0) new x) (linked (step slots p 0 new none) me)
    -- a weight is noted for a split, and the claimed words are loaded after a join
    pub note : (slots id : ℕ) (me : M) (k : ℕ) → Advances slots id me 0 (λ x. either (eqb x k) k x) (noted (step slots 0 k k none) me)
    pub look : (slots id : ℕ) (me : M) (p : ℕ) → Advances slots id me p (λ x. x) (learned (step slots p 0 0 none) me)

-- each kind of step, of a row of any size
abbrev pub EachStepKeeps : Type 0
EachStepKeeps = (n : ℕ) → EachStepKeepsTheRule n

-- from one state to a later one the link, the length and the words of a linked node stay
abbrev pub LinkedWordsStay : Type 0
LinkedWordsStay = (n : ℕ) (s s' : St) (r : RowRule n s) → Grown n s s' r → (done todo : List Node) (x : Node) → r.nodes ≡ done ++ x ∷ todo
    → (slice_index s'.words (last_link 1 done) ≡ slice_index s.words (last_link 1 done)) × (slice_index s'.words (x.at + 1) ≡ slice_index s.words (x.at + 1))
    × ((i : ℕ) → i < length x.table → slice_index s'.words (x.at + (2 + i)) ≡ slice_index s.words (x.at + (2 + i)))

-- a whole pass has seen all of the row's nodes
abbrev pub WholePassHasAll : Type 0
WholePassHasAll = (n : ℕ) (s : St) (r : RowRule n s) (j : ℕ) (v : View) → get_elem? s.views j ≡ some v → v.weight ≡ 2 ^ 32 → v.nodes ≡ r.nodes

-- linked and claimed ranges lie within the row, and no two of them share a word
pub record RangesLieApart (n : ℕ) (s : St) (r : RowRule n s) : Type 0 where
  pub linked_inside : (done todo : List Node) (x : Node) → r.nodes ≡ done ++ x ∷ todo → InRow n x
  pub claimed_inside : (j : ℕ) (v : View) → get_elem? s.views j ≡ some v → v.claim.start + v.claim.size ≤ n + 2
  pub linked : (done between todo : List Node) (x y : Node) → r.nodes ≡ done ++ x ∷ (between ++ y ∷ todo)
      → Apart x.at (2 + length x.table) y.at (2 + length y.table)
  pub linked_and_claimed : (done todo : List Node) (x : Node) (j : ℕ) (v : View) → r.nodes ≡ done ++ x ∷ todo → get_elem? s.views j ≡ some v
      → Apart x.at (2 + length x.table) v.claim.start v.claim.size
  pub claimed : (j k : ℕ) (v w : View) → j ≢ k → get_elem? s.views j ≡ some v → get_elem? s.views k ≡ some w → Apart v.claim.start v.claim.size w.claim.start w.claim.size
  pub half : 2 * length r.nodes ≤ n

abbrev pub EachRowLiesApart : Type 0
EachRowLiesApart = (n : ℕ) (s : St) (r : RowRule n s) → RangesLieApart n s r

-- no claim that may be made wraps the word that counts the claimed words
abbrev pub ClaimedWordsNeverWrap : Type 0
ClaimedWordsNeverWrap = (n : ℕ) (s : St) (r : RowRule n s) (k : ℕ) → k ≤ n → slice_index s.words 0 + k < 2 ^ 64
