-- What one worker's pass knows of the tables that it numbered.
use Rattle.std.proofs.Common.{◌≡◌, ℕ, zero, suc, ◌+◌, ◌<◌, List, [], ◌∷◌, ◌++◌, length, get_or, take, map, refl, sym, ◌∙◌, ap, subst, arith, true, false, if◌then◌else◌, append-nil, length-append, inl, inr, ◌⊎◌, Bool, Some, None}
use mathlib.Core.List.{IsPrefix}
use Rattle.std.specs.List.{AllByRecursion, Contains, slice_index}
use Rattle.std.proofs.lemmas.List.{get_or_append_left, get_or_push, take_more}
use Rattle.std.proofs.lemmas.List.Elements.{All-from_recursion, Contains-push_cases}
use Rattle.std.proofs.lemmas.Option.{same_Some}
use Rattle.stabby_cell.specs.declared.chronicle.Chronicle.{Ghosts}
use Rattle.stabby_cell.specs.declared.pass.Pass.{Pass}
use Rattle.stabby_cell.specs.Recording.{ViewAdvances}
use Rattle.stabby_cell.specs.Passes as cell
use Rattle.stabby_cell.specs.Passes.{front_of, weight_of, commits_of, Looked, AddedNoCommit, Committed, MissedTurn, opening_stamp_of}
use Rattle.stabby_cell.specs.Telling.{noted}
use Rattle.stabby_cell.specs.declared.view.StepKind.TheVariants.{Missed}
use Rattle.stabby_cell.specs.declared.fault.CellFault.{CellFault}
use Rattle.stabby_cell.specs.declared.fault.CellFault.TheVariants as read
use Rattle.stabby_cell.proofs.CallLemmas.{no_commit_looked}
use Rattle.stabby_tables.specs.Tables.{Table, is_same}
use Rattle.stabby_tables.specs.Lists.{has, place, IsDistinct}
use Rattle.stabby_tables.proofs.Growing.{same_itself, place_old, place_below, has_old}
use Rattle.stabby_tables.proofs.Distinctness.{place_is}
use Rattle.stabby_registry.specs.declared.registry.VtBtree.{VtBtree}
use Rattle.stabby_registry.specs.declared.fault.RegistryFault.{RegistryFault}
use Rattle.stabby_registry.specs.declared.fault.RegistryFault.TheVariants.{Full, RowFull, Memory}
use Rattle.stabby_registry.specs.Inserts.{IsNumber, AddsTable, InsertsTable, IsFull, IsInsertFault, IsReadFault}
use Rattle.stabby_registry.specs.Work.{AreIn, StandsFirst, HasWorked, HasStopped}
use Rattle.stabby_registry.proofs.Versions.{has_number, number_of_place}
use Rattle.stabby_registry.proofs.PassLemmas.{prefix_length}
use Rattle.stabby_registry.proofs.Inserting.{first_zero}

-- ---- places in a list that grew
pub in_longer : (f h ts : List Table) → IsPrefix f h → AreIn f ts → AreIn h ts
in_longer f h [] grows all = tt
in_longer f h (t ∷ ts) grows all = (ap (λ l. has l t) (sym grows.1) ∙ has_old f grows.0 t all.0, in_longer f h ts grows all.1)

places_after : (f more ts : List Table) → AreIn f ts → map (place (f ++ more)) ts ≡ map (place f) ts
places_after f more [] all = refl
places_after f more (t ∷ ts) all = rw (place_old f more t all.0, places_after f more ts all.1) refl

pub places_stay : (f h ts : List Table) → IsPrefix f h → AreIn f ts → map (place h) ts ≡ map (place f) ts
places_stay f h ts grows all = ap (λ l. map (place l) ts) (sym grows.1) ∙ places_after f grows.0 ts all

pub places_below : (f ts : List Table) → AreIn f ts → AllByRecursion (λ n. n < length f) (map (place f) ts)
places_below f [] all = tt
places_below f (t ∷ ts) all = (place_below f t all.0, places_below f ts all.1)

pub numbers_below : (f ts : List Table) (numbers : List ℕ) → AreIn f ts → numbers ≡ map (place f) ts → (q : ℕ) → q < length numbers → slice_index numbers q < length f
numbers_below f ts numbers all is q within =
    let each : AllByRecursion (λ n. n < length f) numbers = rw is (places_below f ts all) in
    All-from_recursion (λ n. n < length f) numbers each q 0 within

pub map-append : (f : Table → ℕ) (ts us : List Table) → map f (ts ++ us) ≡ map f ts ++ map f us
map-append f [] us = refl
map-append f (t ∷ ts) us = ap (λ l. f t ∷ l) (map-append f ts us)

pub in_both : (f ts us : List Table) → AreIn f ts → AreIn f us → AreIn f (ts ++ us)
in_both f [] us all rest = rest
in_both f (t ∷ ts) us all rest = (all.0, in_both f ts us all.1 rest)

-- the table that has the number at a place
pub table_at : (f ts : List Table) (i v : ℕ) → AreIn f ts → i < length (map (place f) ts) → slice_index (map (place f) ts) i ≡ v → (t : Table) × (has ts t ≡ true) × IsNumber f t v
table_at f [] i v all within at = absurd (omega (arith, within))
table_at f (t ∷ ts) zero v all within at = (t, rw (same_itself t) refl, subst (IsNumber f t) at (number_of_place f t all.0))
table_at f (t ∷ ts) (suc i) v all within at =
    let rest = table_at f ts i v all.1 (omega (arith, within)) at in
    (rest.0, elim (is_same t rest.0) as (λ b. (if b then true else has ts rest.0) ≡ true) [ true ↦ refl | false ↦ rest.1 ], rest.2)

-- what an older version answers holds of the list
pub known_behind : (older f : List Table) (t : Table) (n : ℕ) → IsPrefix older f → Some n ≡ (if has older t then Some (place older t) else None) → (has f t ≡ true) × (n ≡ place f t)
known_behind older f t n grows found = by (has older t) refl found
  where
    by : (b : Bool) → has older t ≡ b → Some n ≡ (if b then Some (place older t) else None) → (has f t ≡ true) × (n ≡ place f t)
    by true member is = (
      ap (λ l. has l t) (sym grows.1) ∙ has_old older grows.0 t member,
      same_Some n (place older t) is ∙ sym (place_old older grows.0 t member) ∙ ap (λ l. place l t) grows.1,
    )
    by false absent is = absurd (cc)

-- ---- numbers that stand first
pub first_stays : (numbers more : List ℕ) (v : ℕ) → StandsFirst numbers v → StandsFirst (numbers ++ more) v
first_stays numbers more v (p, within, reads, smaller) = (
  p,
  omega (arith, within, length-append numbers more),
  get_or_append_left numbers more 0 p within ∙ reads,
  λ q lt. rw (get_or_append_left numbers more 0 q (omega (arith, within, lt))) (smaller q lt),
)

pub first_at_end : (numbers : List ℕ) (n : ℕ) → ((q : ℕ) → q < length numbers → slice_index numbers q < n) → StandsFirst (numbers ++ n ∷ []) n
first_at_end numbers n smaller = (
  length numbers,
  omega (arith, length-append numbers (n ∷ [])),
  get_or_push numbers n 0 (length numbers) refl,
  λ q lt. rw (get_or_append_left numbers (n ∷ []) 0 q lt) (smaller q lt),
)

no_member : {P : Type 0} (v : ℕ) → Contains [] v → P
no_member v (k, within, at) = absurd (omega (arith, within))

take_next : (ts : List Table) (i : ℕ) (t : Table) → i < length ts → t ≡ get_or ts i t → take (i + 1) ts ≡ take i ts ++ t ∷ []
take_next ts i t within read = take_more ts i t within ∙ ap (λ u. take i ts ++ u ∷ []) (sym read)

module _ {g : Ghosts (List Table) Table} where
  same_commits : (p q : Pass (List Table) Table g) → AddedNoCommit p q → commits_of q ≡ commits_of p
  same_commits p q a = ViewAdvances.commits (AddedNoCommit.advances a) ∙ ap (λ l. commits_of p ++ l) (AddedNoCommit.no_commit a) ∙ append-nil (commits_of p)

  -- a new pass has numbered nothing
  pub worked_none : (p : Pass (List Table) Table g) → commits_of p ≡ [] → HasWorked p [] []
  worked_none p fresh = record {
    known = tt;
    numbered = refl;
    first = λ v inside. no_member v (subst (λ l. Contains l v) fresh inside);
    few = omega (arith, ap length fresh);
  }

  -- a call that commits nothing leaves what the pass knows
  pub worked_stays : (p q : Pass (List Table) Table g) (ts : List Table) (numbers : List ℕ) → HasWorked p ts numbers → AddedNoCommit p q → HasWorked q ts numbers
  worked_stays p q ts numbers so none =
      let grows : IsPrefix (front_of p) (front_of q) = ViewAdvances.front (AddedNoCommit.advances none) in
      let same = same_commits p q none in
      record {
        known = in_longer (front_of p) (front_of q) ts grows (HasWorked.known so);
        numbered = HasWorked.numbered so ∙ sym (places_stay (front_of p) (front_of q) ts grows (HasWorked.known so));
        first = λ v inside. HasWorked.first so v (subst (λ l. Contains l v) same inside);
        few = omega (arith, HasWorked.few so, ap length same);
      }

  -- one table more
  pub worked_more : (p q : Pass (List Table) Table g) (ts : List Table) (numbers : List ℕ) (t : Table) (n : ℕ) → HasWorked p ts numbers → InsertsTable p q t n → IsNumber (front_of q) t n → IsDistinct (front_of q)
      → HasWorked q (ts ++ t ∷ []) (numbers ++ n ∷ [])
  worked_more p q ts numbers t n so (inl looked) number once =
      let here = worked_stays p q ts numbers so (no_commit_looked p q looked) in
      record {
        known = in_both (front_of q) ts (t ∷ []) (HasWorked.known here) (has_number (front_of q) t n number, tt);
        numbered = ap (λ l. l ++ n ∷ []) (HasWorked.numbered here) ∙ ap (λ (k : ℕ). map (place (front_of q)) ts ++ k ∷ []) (sym (place_is (front_of q) t n once number)) ∙ sym (map-append (place (front_of q)) ts (t ∷ []));
        first = λ v inside. first_stays numbers (n ∷ []) v (HasWorked.first here v inside);
        few = omega (arith, HasWorked.few here, length-append ts (t ∷ []));
      }
  worked_more p q ts numbers t n so (inr adds) number once =
      let grows : IsPrefix (front_of p) (front_of q) = ViewAdvances.front (Committed.advances (AddsTable.committed adds)) in
      let known = in_longer (front_of p) (front_of q) ts grows (HasWorked.known so) in
      let is : numbers ≡ map (place (front_of q)) ts = HasWorked.numbered so ∙ sym (places_stay (front_of p) (front_of q) ts grows (HasWorked.known so)) in
      let smaller : (k : ℕ) → k < length numbers → slice_index numbers k < n =
      λ k within. let below = numbers_below (front_of p) ts numbers (HasWorked.known so) (HasWorked.numbered so) k within in omega (arith, below, prefix_length (front_of p) (AddsTable.before adds) (AddsTable.grown adds), AddsTable.number adds) in
      record {
        known = in_both (front_of q) ts (t ∷ []) known (has_number (front_of q) t n number, tt);
        numbered = ap (λ l. l ++ n ∷ []) is ∙ ap (λ (k : ℕ). map (place (front_of q)) ts ++ k ∷ []) (sym (place_is (front_of q) t n once number)) ∙ sym (map-append (place (front_of q)) ts (t ∷ []));
        first = λ v inside. by v smaller (Contains-push_cases (commits_of p) n v (subst (λ l. Contains l v) (AddsTable.commits adds) inside));
        few = omega (arith, HasWorked.few so, length-append ts (t ∷ []), ap length (AddsTable.commits adds), length-append (commits_of p) (n ∷ []));
      }
    where
      by : (v : ℕ) → ((k : ℕ) → k < length numbers → slice_index numbers k < n) → Contains (commits_of p) v ⊎ (n ≡ v) → StandsFirst (numbers ++ n ∷ []) v
      by v smaller (inl old) = first_stays numbers (n ∷ []) v (HasWorked.first so v old)
      by v smaller (inr same) = subst (StandsFirst (numbers ++ n ∷ [])) same (first_at_end numbers n smaller)

  -- one table more, that an older version has
  pub worked_known : (p : Pass (List Table) Table g) (ts : List Table) (numbers : List ℕ) (t : Table) (n : ℕ) → HasWorked p ts numbers → (has (front_of p) t ≡ true) × (n ≡ place (front_of p) t) → HasWorked p (ts ++ t ∷ []) (numbers ++ n ∷ [])
  worked_known p ts numbers t n so (member, is) = record {
    known = in_both (front_of p) ts (t ∷ []) (HasWorked.known so) (member, tt);
    numbered = ap (λ l. l ++ n ∷ []) (HasWorked.numbered so) ∙ ap (λ (k : ℕ). map (place (front_of p)) ts ++ k ∷ []) is ∙ sym (map-append (place (front_of p)) ts (t ∷ []));
    first = λ v inside. first_stays numbers (n ∷ []) v (HasWorked.first so v inside);
    few = omega (arith, HasWorked.few so, length-append ts (t ∷ []));
  }

  -- the next table of a list
  pub next_more : (p q : Pass (List Table) Table g) (ts : List Table) (i : ℕ) (numbers : List ℕ) (t : Table) (n : ℕ) → i < length ts → t ≡ get_or ts i t → HasWorked p (take i ts) numbers → InsertsTable p q t n → IsNumber (front_of q) t n → IsDistinct (front_of q)
      → HasWorked q (take (i + 1) ts) (numbers ++ n ∷ [])
  next_more p q ts i numbers t n within read so inserts number once = rw (take_next ts i t within read) (worked_more p q (take i ts) numbers t n so inserts number once)

  pub next_known : (p : Pass (List Table) Table g) (ts : List Table) (i : ℕ) (numbers : List ℕ) (t : Table) (n : ℕ) → i < length ts → t ≡ get_or ts i t → HasWorked p (take i ts) numbers → (has (front_of p) t ≡ true) × (n ≡ place (front_of p) t)
      → HasWorked p (take (i + 1) ts) (numbers ++ n ∷ [])
  next_known p ts i numbers t n within read so known = rw (take_next ts i t within read) (worked_known p (take i ts) numbers t n so known)

  -- a refused read commits nothing
  pub read_refused : (p q : Pass (List Table) Table g) (fault : CellFault) → IsReadFault p q fault → AddedNoCommit p q
  read_refused p q read.Busy missed = record { steps = noted Missed (MissedTurn.stamp missed) ∷ []; advances = MissedTurn.advances missed; no_commit = refl }
  read_refused p q read.Memory looked = no_commit_looked p q looked

  pub same_weight : (p q : Pass (List Table) Table g) → AddedNoCommit p q → weight_of q ≡ weight_of p
  same_weight p q none = ViewAdvances.weight (AddedNoCommit.advances none)

  -- where an insert was refused
  pub stopped : {size : ℕ} (registry : VtBtree size) (p q : Pass (List Table) Table g) (ts : List Table) (done : ℕ) (numbers : List ℕ) (t : Table) (fault : RegistryFault) → opening_stamp_of registry.cell ≡ 0
      → cell.IsPassOf registry.cell q → HasWorked p (take done ts) numbers → IsInsertFault p q t fault → HasStopped q ts fault
  stopped registry p q ts done numbers t (Full front) at own so full = record {
    done = done;
    numbers = numbers;
    worked = worked_stays p q (take done ts) numbers so (no_commit_looked p q (IsFull.looked full));
    stops = omega (arith, IsFull.last_stamp full, first_zero registry q at own);
  }
  stopped registry p q ts done numbers t (RowFull claimed needed) at own so none = absurd none
  stopped registry p q ts done numbers t Memory at own so none = record {
    done = done;
    numbers = numbers;
    worked = worked_stays p q (take done ts) numbers so none;
    stops = tt;
  }
