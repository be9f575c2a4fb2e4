-- What the last turn of an insert says of the whole call.
use Rattle.std.proofs.Common.{◌≡◌, ℕ, ◌+◌, ◌-◌, ◌^◌, ◌<◌, ◌≤◌, List, [], ◌∷◌, ◌++◌, length, true, false, sym, refl, ap, ◌∙◌, subst, arith, inl, inr, append-nil, Result, Ok, Err, IfOk, IfErr}
use mathlib.Core.List.{IsPrefix}
use mathlib.Core.Bool.{false≢true}
use Rattle.stabby_cell.specs.declared.chronicle.Chronicle.{Ghosts}
use Rattle.stabby_cell.specs.declared.pass.Pass.{Pass}
use Rattle.stabby_cell.specs.Recording.{ViewAdvances}
use Rattle.stabby_cell.specs.Passes.{front_of, first_stamp_of, stamp_of, commits_of, opening_stamp_of, IsPassOf, IsWhole, Looked, Committed}
use Rattle.stabby_cell.proofs.CallLemmas.{no_commit_looked, looked_looked}
use Rattle.stabby_cell.proofs.RecordLemmas.{prefix_trans}
use Rattle.stabby_tables.specs.Tables.{Table}
use Rattle.stabby_tables.specs.Lists.{has, with_table, place, IsDistinct}
use Rattle.stabby_tables.proofs.Growing.{has_old, distinct_more}
use Rattle.stabby_tables.proofs.Distinctness.{place_is}
use Rattle.stabby_registry.specs.declared.registry.VtBtree.{VtBtree}
use Rattle.stabby_registry.specs.declared.fault.RegistryFault.{RegistryFault}
use Rattle.stabby_registry.specs.declared.fault.RegistryFault.TheVariants.{Full, RowFull, Memory}
use Rattle.stabby_registry.specs.Catalog.{last_table}
use Rattle.stabby_registry.specs.Inserts.{IsNumber, AddsTable, InsertsTable, IsFull, IsInsertFault}
use Rattle.stabby_registry.proofs.Versions.{last-push, number_last, has_number}
use Rattle.stabby_registry.proofs.PassLemmas.{then_committed, then_nothing, commits_after, whole_stays, whole_grows}

module _ {size : ℕ} {g : Ghosts (List Table) Table} where
  -- a pass of a registry begins at stamp 0
  pub first_zero : (registry : VtBtree size) (p : Pass (List Table) Table g) → opening_stamp_of registry.cell ≡ 0 → IsPassOf registry.cell p → first_stamp_of p ≡ 0
  first_zero registry p zero own = IsPassOf.first_is own ∙ zero

  -- the table that was absent is committed
  pub inserted_there : (registry : VtBtree size) (p q r : Pass (List Table) Table g) (t : Table) (n : ℕ) (version next : List Table) → opening_stamp_of registry.cell ≡ 0 → IsPassOf registry.cell q
      → Looked p q → IsDistinct (front_of q) → (has (front_of q) t ≡ false) × (version ≡ front_of q) × (length (front_of q) < 2 ^ 63 - 1) → n ≡ length version → next ≡ version ++ t ∷ []
      → Committed q r (front_of q) (last_table next)
      → record { number : IsNumber (front_of r) t n; adds : AddsTable p r t n; distinct : IsDistinct (front_of r) }
  inserted_there registry p q r t n version next zero own looked once (absent, is, room) count longer committed =
      let last : last_table next ≡ t = ap last_table longer ∙ last-push version t in
      let here : Committed q r (front_of q) t = subst (Committed q r (front_of q)) last committed in
      let whole : Committed p r (front_of q) t = then_committed p q r (front_of q) t (no_commit_looked p q looked) here in
      let number : n ≡ length (front_of q) = count ∙ ap length is in
      let first : first_stamp_of p ≡ 0 = sym (ViewAdvances.first (Looked.advances looked)) ∙ first_zero registry q zero own in
      let at : first_stamp_of p + length (front_of q) ≡ n = omega (arith, first, number) in
      record {
        number = subst (λ f. IsNumber f t n) (sym (Committed.front here)) (subst (IsNumber (front_of q ++ t ∷ []) t) (sym number) (number_last (front_of q) t));
        adds = record {
          before = front_of q;
          grown = ViewAdvances.front (Looked.advances looked);
          committed = whole;
          absent = absent;
          number = number;
          commits = commits_after p r (front_of q) t whole ∙ ap (λ (k : ℕ). commits_of p ++ k ∷ []) at;
        };
        distinct = subst IsDistinct (sym (Committed.front here)) (distinct_more (front_of q) t once absent);
      }

  pub full_front : (registry : VtBtree size) (p q : Pass (List Table) Table g) (t : Table) (seen : ℕ) → opening_stamp_of registry.cell ≡ 0 → IsPassOf registry.cell q
      → (has (front_of q) t ≡ false) × (2 ^ 63 - 1 ≤ length (front_of q)) → seen ≡ stamp_of q → seen < 2 ^ 63 → Looked p q → IsFull p q t seen
  full_front registry p q t seen zero own (absent, many) stamp limit looked =
      let first = first_zero registry q zero own in
      record { absent = absent; length_is = omega (arith, stamp, first); last_stamp = omega (arith, stamp, first, many, limit); looked = looked }

-- a table that the old front has is in the new one
pub not_known : {g : Ghosts (List Table) Table} (p q : Pass (List Table) Table g) (t : Table) → Looked p q → has (front_of q) t ≡ false → has (front_of p) t ≡ true → ⊥
not_known p q t looked absent known =
    let grows = ViewAdvances.front (Looked.advances looked) in
    false≢true (sym absent ∙ ap (λ f. has f t) (sym grows.1) ∙ has_old (front_of p) grows.0 t known)

-- ---- an insert after steps that committed nothing
module _ {g : Ghosts (List Table) Table} where
  pub inserts_after : (p q r : Pass (List Table) Table g) (t : Table) (n : ℕ) → Looked p q → InsertsTable q r t n → InsertsTable p r t n
  inserts_after p q r t n a (inl b) = inl (looked_looked p q r a b)
  inserts_after p q r t n a (inr b) = inr (record {
    before = AddsTable.before b;
    grown = prefix_trans (front_of p) (front_of q) (AddsTable.before b) (ViewAdvances.front (Looked.advances a)) (AddsTable.grown b);
    committed = then_committed p q r (AddsTable.before b) t (no_commit_looked p q a) (AddsTable.committed b);
    absent = AddsTable.absent b;
    number = AddsTable.number b;
    commits = AddsTable.commits b ∙ ap (λ l. l ++ n ∷ []) (ViewAdvances.commits (Looked.advances a) ∙ ap (λ l. commits_of p ++ l) (Looked.no_commit a) ∙ append-nil (commits_of p));
  })

  pub refused_after : (p q r : Pass (List Table) Table g) (t : Table) (f : RegistryFault) → Looked p q → IsInsertFault q r t f → IsInsertFault p r t f
  refused_after p q r t (Full front) a h = record {
    absent = IsFull.absent h;
    length_is = IsFull.length_is h;
    last_stamp = IsFull.last_stamp h;
    looked = looked_looked p q r a (IsFull.looked h);
  }
  refused_after p q r t (RowFull claimed needed) a h = absurd h
  refused_after p q r t Memory a h = then_nothing p q r (no_commit_looked p q a) h

module _ {g : Ghosts (List Table) Table} where
  pub ok_after : (p q r : Pass (List Table) Table g) (t : Table) (result : Result ℕ RegistryFault) → Looked p q → IfOk result (InsertsTable q r t) → IfOk result (InsertsTable p r t)
  ok_after p q r t (Ok n) a h = inserts_after p q r t n a h
  ok_after p q r t (Err f) a h = h

  pub err_after : (p q r : Pass (List Table) Table g) (t : Table) (result : Result ℕ RegistryFault) → Looked p q → IfErr result (IsInsertFault q r t) → IfErr result (IsInsertFault p r t)
  err_after p q r t (Ok n) a h = h
  err_after p q r t (Err f) a h = refused_after p q r t f a h

  -- the version that was committed is the front
  pub next_is_front : (q r : Pass (List Table) Table g) (t : Table) (known next : List Table) → known ≡ front_of q → next ≡ known ++ t ∷ [] → Committed q r (front_of q) (last_table next) → next ≡ front_of r
  next_is_front q r t known next is longer committed =
      let last : last_table next ≡ t = ap last_table longer ∙ last-push known t in
      longer ∙ ap (λ (v : List Table). v ++ t ∷ []) is ∙ sym (Committed.front committed ∙ ap (λ (u : Table). front_of q ++ u ∷ []) last)

-- ---- inserts by a whole pass
module _ {size : ℕ} {g : Ghosts (List Table) Table} where
  -- the front grows by the table where it was absent
  pub whole_insert : (registry : VtBtree size) (p q : Pass (List Table) Table g) (t : Table) (n : ℕ) → IsPassOf registry.cell p → IsPassOf registry.cell q → IsWhole p
      → InsertsTable p q t n → IsNumber (front_of q) t n → IsDistinct (front_of q) → record { front : front_of q ≡ with_table (front_of p) t; number : n ≡ place (front_of q) t }
  whole_insert registry p q t n own own' whole (inl looked) number once =
      let same : front_of q ≡ front_of p = whole_stays registry.cell p q own own' whole (no_commit_looked p q looked) in
      let there : has (front_of p) t ≡ true = subst (λ f. has f t ≡ true) same (has_number (front_of q) t n number) in
      record { front = same ∙ (rw there refl); number = sym (place_is (front_of q) t n once number) }
  whole_insert registry p q t n own own' whole (inr adds) number once =
      let before = whole_grows registry.cell p q (AddsTable.before adds) t own own' whole (AddsTable.committed adds) in
      let absent : has (front_of p) t ≡ false = subst (λ f. has f t ≡ false) before (AddsTable.absent adds) in
      record { front = Committed.front (AddsTable.committed adds) ∙ ap (λ f. f ++ t ∷ []) before ∙ (rw absent refl); number = sym (place_is (front_of q) t n once number) }

  -- a registry whose whole pass has few tables isn't full
  pub whole_not_full : (registry : VtBtree size) (p q : Pass (List Table) Table g) (t : Table) (front : ℕ) → IsPassOf registry.cell p → IsPassOf registry.cell q → IsWhole p → length (front_of p) < 2 ^ 63 - 1
      → opening_stamp_of registry.cell ≡ 0 → IsFull p q t front → ⊥
  whole_not_full registry p q t front own own' whole room zero full =
      let same = ap length (whole_stays registry.cell p q own own' whole (no_commit_looked p q (IsFull.looked full))) in
      let last = IsFull.last_stamp full in
      absurd (omega (arith, room, same, last, first_zero registry q zero own'))
