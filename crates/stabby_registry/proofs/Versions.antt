-- A registry's version is the list of the tables that were committed, and they are distinct.
use Rattle.std.proofs.Common.{◌≡◌, ℕ, zero, suc, List, [], ◌∷◌, ◌++◌, length, refl, sym, ◌∙◌, ap, subst, Bool, true, false, if◌then◌else◌, append_assoc, append-nil, Some, None}
use mathlib.Core.Bool.{false≢true}
use Rattle.stabby_tables.specs.Tables.{Table, is_same}
use Rattle.stabby_tables.specs.Lists.{has, place, IsDistinct}
use Rattle.stabby_tables.proofs.Growing.{same_itself, equal_from_same, distinct_more}
use Rattle.stabby_cell.specs.Rule.{Reached}
use Rattle.stabby_cell.specs.declared.chronicle.Chronicle.{Ghosts}
use Rattle.stabby_cell.specs.declared.turn.Turn.{Turn}
use Rattle.stabby_cell.specs.Passes.{front_of, first_version_of}
use Rattle.stabby_cell.specs.Turns.{IsTurn, cell_of, pass_of, version_of}
use Rattle.stabby_registry.specs.declared.registry.VtBtree.{VtBtree}
use Rattle.stabby_registry.specs.Catalog.{AppendsTable, last_table}
use Rattle.stabby_registry.specs.Inserts.{IsNumber}

pub last-push : (f : List Table) (t : Table) → last_table (f ++ t ∷ []) ≡ t
last-push [] t = refl
last-push (u ∷ []) t = refl
last-push (u ∷ v ∷ f) t = last-push (v ∷ f) t

-- a version that is reached is the first one followed by the entries
reached_from : (u v : List Table) (es : List Table) → IsDistinct u → Reached AppendsTable u es v → (v ≡ u ++ es) × IsDistinct v
reached_from u v [] once e = (e ∙ sym (append-nil u), subst IsDistinct (sym e) once)
reached_from u v (t ∷ es) once (w, step, rest) =
    let longer : w ≡ u ++ t ∷ [] = step.appended in
    let both = reached_from w v es (subst IsDistinct (sym longer) (distinct_more u t once step.absent)) rest in
    (both.0 ∙ ap (λ l. l ++ es) longer ∙ append_assoc u (t ∷ []) es, both.1)

pub version_is : (v : List Table) (es : List Table) → Reached AppendsTable [] es v → (v ≡ es) × IsDistinct es
version_is v es reached =
    let both = reached_from [] v es refl reached in
    (both.0, subst IsDistinct both.0 both.1)

-- ---- numbers and places
pub number_of_place : (f : List Table) (t : Table) → has f t ≡ true → IsNumber f t (place f t)
number_of_place [] t member = absurd (false≢true member)
number_of_place (u ∷ f) t member = by (is_same u t) refl (number_of_place f t)
  where
    by : (b : Bool) → is_same u t ≡ b → (has f t ≡ true → IsNumber f t (place f t)) → IsNumber (u ∷ f) t (if b then 0 else suc (place f t))
    by true same rest = ap Some (equal_from_same u t same)
    by false other rest = rest (let m : (if is_same u t then true else has f t) ≡ true = member in rw other at m)

pub number_last : (f : List Table) (t : Table) → IsNumber (f ++ t ∷ []) t (length f)
number_last [] t = refl
number_last (u ∷ f) t = number_last f t

pub has_number : (f : List Table) (t : Table) (n : ℕ) → IsNumber f t n → has f t ≡ true
has_number [] t n h = absurd (cc)
has_number (u ∷ f) t zero h = let e : u ≡ t = cc in rw (ap (λ x. is_same x t) e, same_itself t) refl
has_number (u ∷ f) t (suc n) h = let rest = has_number f t n h in elim (is_same u t) as (λ b. (if b then true else has f t) ≡ true) [ true ↦ refl | false ↦ rest ]

-- what a look-up answers
pub number_found : (f : List Table) (t : Table) (n : ℕ) → Some n ≡ (if has f t then Some (place f t) else None) → IsNumber f t n
number_found f t n h = by (has f t) refl h
  where
    by : (b : Bool) → has f t ≡ b → Some n ≡ (if b then Some (place f t) else None) → IsNumber f t n
    by true member e = let same : n ≡ place f t = cc in rw same (number_of_place f t member)
    by false absent e = absurd (cc)

pub none_found : (f : List Table) (t : Table) → None ≡ (if has f t then Some (place f t) else None) → has f t ≡ false
none_found f t h = by (has f t) refl h
  where
    by : (b : Bool) → has f t ≡ b → None ≡ (if b then Some (place f t) else None) → has f t ≡ false
    by true member e = absurd (cc)
    by false absent e = absent

-- ---- a turn's version
module _ {size : ℕ} {g : Ghosts (List Table) Table} where
  -- the version that a turn has out is the front of its pass
  pub turn_version : (registry : VtBtree size) (t : Turn (List Table) Table g) → IsTurn AppendsTable t → cell_of t ≡ registry.cell → first_version_of registry.cell ≡ [] → (version_of t ≡ front_of (pass_of t)) × IsDistinct (front_of (pass_of t))
  turn_version registry t turn same empty =
      version_is (version_of t) (front_of (pass_of t)) (subst (λ u. Reached AppendsTable u (front_of (pass_of t)) (version_of t)) (ap first_version_of same ∙ empty) (IsTurn.version turn))
