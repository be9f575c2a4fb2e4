-- Where a key belongs among the entries of a node.
use Rattle.std.specs.Prelude.{◌≡◌, ℕ, ◌+◌, suc, Bool, true, false, List, [], ◌∷◌, Option, Some}
use Rattle.std.specs.declared.cmp.Ordering.{Ordering}
use Rattle.std.specs.declared.sync.Arc.{Arc}
use Rattle.stabby_tree.specs.declared.node.Item.{Item}
use Rattle.stabby_tree.specs.declared.spot.Spot.{Spot}
use Rattle.stabby_tree.specs.declared.spot.Spot.TheVariants.{Hit, Below}
use Rattle.stabby_tree.specs.Order.{IsRising, find, match_ordering}
use Rattle.stabby_tree.specs.Shape.{below, depth_of, flat, AreHeavy}

module _ {X K A : Type 0} (key : X → K) (cmp : K → K → Ordering) (k : K) where
  -- how many entries are less than the key, before the first that isn't
  abbrev pub lower : List (Item (List X × ℕ) X A) → ℕ
  lower [] = 0
  lower (e ∷ es) = match_ordering (cmp (key e.value) k) (suc (lower es)) 0 0

  -- whether the first entry that isn't less has the key
  abbrev pub meets : List (Item (List X × ℕ) X A) → Bool
  meets [] = false
  meets (e ∷ es) = match_ordering (cmp (key e.value) k) (meets es) true false

  -- the entry n + (at - n) has the key, and x is its value
  pub record Hits (es : List (Item (List X × ℕ) X A)) (g : Option (Arc (List X × ℕ) A)) (n at : ℕ) (x : X) : Type 0 where
    pub place : at ≡ n + lower es
    pub meets_it : meets es ≡ true
    pub found : Some x ≡ find key cmp k (flat es g)

  -- what the link l leads to has the key where the whole has it
  pub record Leads (es : List (Item (List X × ℕ) X A)) (g : Option (Arc (List X × ℕ) A)) (n at : ℕ) (l : Option (Arc (List X × ℕ) A)) : Type 0 where
    pub place : at ≡ n + lower es
    pub misses : meets es ≡ false
    pub rises : IsRising key cmp (below l)
    pub found : find key cmp k (below l) ≡ find key cmp k (flat es g)
    pub deep : (m d : ℕ) → AreHeavy m d es → depth_of g ≡ d → depth_of l ≡ d

  abbrev pub IsSpot : List (Item (List X × ℕ) X A) → Option (Arc (List X × ℕ) A) → ℕ → Spot (List X × ℕ) X A → Type 0
  IsSpot es g n (Hit at x) = Hits es g n at x.now
  IsSpot es g n (Below at l) = Leads es g n at l.now
