-- Lists of tables: their distinct members, the places and the order of these, and how such a list grows.
use Rattle.std.specs.Prelude.{◌≡◌, ℕ, suc, Bool, true, false, List, [], ◌∷◌, ◌++◌, ◌==◌, if◌then◌else◌, map, fold}
use Rattle.std.specs.List.{AllByRecursion}
use Rattle.stabby_tables.specs.Tables.{Table, is_before, is_same}

-- whether t is a member
abbrev pub has : List Table → Table → Bool
has [] t = false
has (u ∷ us) t = if is_same u t then true else has us t

-- the list with t at its end, where t is no member
abbrev pub with_table : List Table → Table → List Table
with_table f t = if has f t then f else f ++ t ∷ []

-- the list without each member that stands earlier in it
abbrev pub distinct : List Table → List Table
distinct ts = fold with_table [] ts

-- no table stands twice
abbrev pub IsDistinct : List Table → Type 0
IsDistinct f = distinct f ≡ f

-- the number of members before t
abbrev pub place : List Table → Table → ℕ
place [] t = 0
place (u ∷ us) t = if is_same u t then 0 else suc (place us t)

-- t put where the members before it end, unless it stands there
abbrev pub placed : Table → List Table → List Table
placed t [] = t ∷ []
placed t (u ∷ us) = if is_before u t then u ∷ placed t us else (if is_same u t then u ∷ us else t ∷ u ∷ us)

-- the members in strictly increasing order
abbrev pub increasing : List Table → List Table
increasing f = fold (λ sorted t. placed t sorted) [] f

-- t is before each of these
abbrev pub AllAfter : Table → List Table → Type 0
AllAfter t s = AllByRecursion (λ u. is_before t u ≡ true) s

-- each table is before all later ones
abbrev pub IsRising : List Table → Type 0
IsRising [] = Unit {0}
IsRising (t ∷ s) = AllAfter t s × IsRising s

-- each member beside its place, in the order of the members
abbrev pub ordered : List Table → List (Table × ℕ)
ordered f = map (λ t. (t, place f t)) (increasing f)

-- how many members are less than t
abbrev pub rank : List Table → Table → ℕ
rank [] t = 0
rank (u ∷ us) t = if is_before u t then suc (rank us t) else rank us t

-- the place of the entry that has the number n
abbrev pub entry_place : List (Table × ℕ) → ℕ → ℕ
entry_place [] n = 0
entry_place (e ∷ es) n = if e.1 == n then 0 else suc (entry_place es n)

-- f has exactly the members of ts, each once
pub record HoldsEachOnce (ts f : List Table) : Type 0 where
  pub once : IsDistinct f
  pub members : (t : Table) → has f t ≡ has ts t

-- new is old, and then some members of ts that old lacks, each once
pub record AppendsSome (old ts new : List Table) : Type 0 where
  pub added : List Table
  pub appended : new ≡ old ++ added
  pub once : IsDistinct new
  pub from : (t : Table) → has added t ≡ true → has ts t ≡ true

-- new is old, and then exactly those members of ts that old lacks, each once
pub record AppendsAbsent (old ts new : List Table) : Type 0 where
  pub some : AppendsSome old ts new
  pub every : (t : Table) → has ts t ≡ true → has new t ≡ true
