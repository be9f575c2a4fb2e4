-- What contracts say of a row, of a pass, and of what a call did to a pass.
use Rattle.std.specs.Prelude.{◌≡◌, ◌⊎◌, ℕ, ◌+◌, ◌^◌, ◌<◌, ◌≤◌, false, List, [], ◌∷◌, ◌++◌, map, take, length, Some, slice_get}
use Rattle.std.specs.List.{Contains}
use Rattle.stabby_tables.specs.Tables.{Table}
use Rattle.stabby_tables.specs.Lists.{has}
use Rattle.stabby_row.specs.declared.row.WordRow.{WordRow}
use Rattle.stabby_row.specs.declared.row.RowFull.{RowFull}
use Rattle.stabby_row.specs.declared.pass.RowPass.{RowPass}
use Rattle.stabby_row.specs.Rule.{table_of}

-- how many words the row has
abbrev pub words_of : WordRow → ℕ
words_of row = row.words

-- the pass belongs to the row: each call that takes a pass asks it and keeps it
abbrev pub IsPassOf : WordRow → RowPass → Type 0
IsPassOf row p = p.seat.table_id ≡ row.base.shared.table_id

-- how many words the pass's row has
abbrev pub room_of : RowPass → ℕ
room_of p = p.seat.me.0.room

-- the tables that the caller has seen, a prefix of the row's list
abbrev pub front_of : RowPass → List Table
front_of p = map table_of p.seat.me.0.nodes

abbrev pub weight_of : RowPass → ℕ
weight_of p = p.seat.me.0.weight

-- how many loads of links the pass made
abbrev pub walked_of : RowPass → ℕ
walked_of p = p.seat.me.0.tally.walked

-- how many of these found the link past the front empty
abbrev pub ends_of : RowPass → ℕ
ends_of p = p.seat.me.0.tally.ends

abbrev pub claims_of : RowPass → ℕ
claims_of p = p.seat.me.0.tally.claims

-- for each claim the number of claimed words that it found, and the number that it left
abbrev pub marks_of : RowPass → List ℕ
marks_of p = p.seat.me.0.tally.marks

-- the length of the front, and how many ends were found, both when the pass last claimed
abbrev pub seen_at_claim_of : RowPass → ℕ
seen_at_claim_of p = p.seat.me.0.tally.seen_then

abbrev pub ends_at_claim_of : RowPass → ℕ
ends_at_claim_of p = p.seat.me.0.tally.ends_then

-- every pass that was split from the row's first one has been joined into it again
abbrev pub IsWhole : RowPass → Type 0
IsWhole p = weight_of p ≡ 2 ^ 32

-- the list has the table t at place n
abbrev pub IsNumber : List Table → Table → ℕ → Type 0
IsNumber front t n = slice_get front n ≡ Some t

-- a new row of these words, and its whole pass
pub record IsOpening (words : ℕ) (row : WordRow) (p : RowPass) : Type 0 where
  pub belongs : IsPassOf row p
  pub room : words_of row ≡ words
  pub whole : IsWhole p
  pub empty : front_of p ≡ []
  pub walked : walked_of p ≡ 0
  pub ends : ends_of p ≡ 0
  pub claims : claims_of p ≡ 0
  pub marks : marks_of p ≡ []

-- the weight k was cut off p: q is what is left of it, and r the new pass
pub record SplitOff (p q r : RowPass) (k : ℕ) : Type 0 where
  pub weight : weight_of q + k ≡ weight_of p
  pub front : front_of q ≡ front_of p
  pub walked : walked_of q ≡ walked_of p
  pub ends : ends_of q ≡ ends_of p
  pub claims : claims_of q ≡ claims_of p
  pub marks : marks_of q ≡ marks_of p
  pub new_weight : weight_of r ≡ k
  pub new_front : front_of r ≡ front_of p
  pub new_walked : walked_of r ≡ 0
  pub new_ends : ends_of r ≡ 0
  pub new_claims : claims_of r ≡ 0
  pub new_marks : marks_of r ≡ marks_of p

-- the pass `other` went into p: q
pub record Joined (p other q : RowPass) : Type 0 where
  pub weight : weight_of q ≡ weight_of p + weight_of other
  pub walked : walked_of q ≡ walked_of p + walked_of other
  pub ends : ends_of q ≡ ends_of p + ends_of other
  pub claims : claims_of q ≡ claims_of p + claims_of other
  pub marks : marks_of q ≡ marks_of p ++ marks_of other

-- from p to q the pass claimed nothing
abbrev pub MadeNoClaim : RowPass → RowPass → Type 0
MadeNoClaim p q = (claims_of q ≡ claims_of p) × (marks_of q ≡ marks_of p)

-- from p to q the pass claimed the words for t once, and found this number of words claimed: after the call had found the
-- end of the links, and when the front, as long as it was then, had not the table
pub record MadeOneClaim (p q : RowPass) (t : Table) (found : ℕ) : Type 0 where
  pub claims : claims_of q ≡ claims_of p + 1
  pub marks : marks_of q ≡ marks_of p ++ found ∷ (found + (2 + length t)) ∷ []
  pub ended : (ends_of p < ends_at_claim_of q) × (ends_at_claim_of q ≤ ends_of q)
  pub seen : (length (front_of p) ≤ seen_at_claim_of q) × (seen_at_claim_of q ≤ length (front_of q))
  pub absent : has (take (seen_at_claim_of q) (front_of q)) t ≡ false

abbrev pub ClaimsAtMostOnce : RowPass → RowPass → Table → Type 0
ClaimsAtMostOnce p q t = MadeNoClaim p q ⊎ ((found : ℕ) × MadeOneClaim p q t found)

-- The number of claimed words that a refusal names is 0 where the table alone is too long, or without a claim of this call
-- a number that an earlier claim found or left, or what the claim of this call found.
abbrev pub IsClaimedBy : ℕ → ℕ → ℕ → RowPass → RowPass → Table → Type 0
IsClaimedBy words claimed needed p q t =
    ((claimed ≡ 0) × (words < needed) × MadeNoClaim p q)
    ⊎ ((∥ Contains (marks_of p) claimed ∥₁ × MadeNoClaim p q)
    ⊎ MadeOneClaim p q t claimed)

-- the row has no room for t, which is absent: the call met the end of the links
pub record IsRowFull (words : ℕ) (p q : RowPass) (t : Table) (fault : RowFull) : Type 0 where
  pub needed : fault.needed ≡ 2 + length t
  pub over : words < fault.claimed + fault.needed
  pub absent : has (front_of q) t ≡ false
  pub ended : ends_of p < ends_of q
  pub walked : walked_of q ≤ walked_of p + (length (front_of q) + 1)
  pub cause : IsClaimedBy words fault.claimed fault.needed p q t
