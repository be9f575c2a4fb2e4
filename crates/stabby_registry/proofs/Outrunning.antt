-- What a call that was outrun some times says of its pass.
use Rattle.std.proofs.Common.{◌≡◌, ℕ, ◌+◌, ◌-◌, ◌^◌, ◌<◌, ◌≤◌, List, [], ◌∷◌, ◌++◌, length, take, false, refl, sym, ap, ◌∙◌, subst, arith, append_assoc, take_at}
use mathlib.Core.List.{IsPrefix}
use Rattle.stabby_cell.specs.declared.chronicle.Chronicle.{Ghosts}
use Rattle.stabby_cell.specs.declared.pass.Pass.{Pass}
use Rattle.stabby_cell.specs.declared.view.NotedStep.{NotedStep}
use Rattle.stabby_cell.specs.declared.view.StepKind.TheVariants.{Take, Release}
use Rattle.stabby_cell.specs.Telling.{noted}
use Rattle.stabby_cell.specs.Recording.{ViewAdvances, has_read, commits_in, misses_at}
use Rattle.stabby_cell.specs.Visits.{Visited}
use Rattle.stabby_cell.specs.Passes.{view_of, front_of, first_stamp_of, stamp_of, opening_stamp_of, IsPassOf, IsWhole, Advances, Looked, AddedNoCommit, Committed}
use Rattle.stabby_cell.proofs.RecordLemmas.{advances_trans, commits_in-append}
use Rattle.stabby_cell.proofs.CallLemmas.{no_commit_looked, looked_looked}
use Rattle.stabby_cell.proofs.VisitLemmas.{looked_visited}
use Rattle.stabby_tables.specs.Tables.{Table}
use Rattle.stabby_tables.specs.Lists.{has, IsDistinct}
use Rattle.stabby_registry.specs.declared.registry.VtBtree.{VtBtree}
use Rattle.stabby_registry.specs.declared.fault.TryFault.{TryFault}
use Rattle.stabby_registry.specs.declared.fault.TryFault.TheVariants.{Busy, Moved, Full, Memory}
use Rattle.stabby_registry.specs.Inserts.{IsNumber, AddsTable, IsFull, ReadBoth}
use Rattle.stabby_registry.specs.Visits.{IsTriedFault}
use Rattle.stabby_registry.specs.Within.{ReadFirst, WasOutrun, IsWithinFault}
use Rattle.stabby_registry.specs.Tries.{IsOwnFault}
use Rattle.stabby_registry.proofs.Versions.{last-push}
use Rattle.stabby_registry.proofs.PassLemmas.{prefix_length, then_nothing}
use Rattle.stabby_registry.proofs.Inserting.{first_zero, inserted_there}
use Rattle.stabby_registry.proofs.Trying.{own_if_whole}

has_read-misses : (ts : List ℕ) → has_read (misses_at ts) ≡ false
has_read-misses [] = refl
has_read-misses (t ∷ ts) = has_read-misses ts

-- a turn that was taken at the stamp and given back
abbrev visit_at : ℕ → List NotedStep
visit_at k = noted Take k ∷ noted Release k ∷ []

module _ {g : Ghosts (List Table) Table} where
  -- From p to r other callers came before the call n times, and its last steps were a turn that it gave back.
  pub record Outrun (p r : Pass (List Table) Table g) (n : ℕ) : Type 0 where
    pub before : List NotedStep
    pub advances : Advances p r (before ++ visit_at (stamp_of r))
    pub looked : Looked p r
    pub first : ℕ
    pub first_read : ReadFirst p r first
    pub not_before : stamp_of p ≤ first
    pub many : first + n ≤ stamp_of r

  stamp_grows : (p q : Pass (List Table) Table g) → Looked p q → stamp_of p ≤ stamp_of q
  stamp_grows p q a =
      let longer : length (front_of p) ≤ length (front_of q) = prefix_length (front_of p) (front_of q) (ViewAdvances.front (Looked.advances a)) in
      let firsts : first_stamp_of q ≡ first_stamp_of p = ViewAdvances.first (Looked.advances a) in omega (arith, longer, firsts)

  pub not_outrun : (p r : Pass (List Table) Table g) → Visited p r → Outrun p r 0
  not_outrun p r v =
      let looked = looked_visited p r v in
      let grows = stamp_grows p r looked in
      record {
        before = misses_at (Visited.found_held v);
        advances = Visited.advances v;
        looked = looked;
        first = stamp_of r;
        first_read = record {
          before = misses_at (Visited.found_held v);
          one = noted Take (stamp_of r);
          after = noted Release (stamp_of r) ∷ [];
          advances = Visited.advances v;
          none_before = has_read-misses (Visited.found_held v);
          reads = refl;
          stamp_is = refl;
        };
        not_before = grows;
        many = omega arith;
      }

  -- further steps leave the first read
  reads_more : (p q r : Pass (List Table) Table g) (first : ℕ) → ReadFirst p q first → Looked q r → ReadFirst p r first
  reads_more p q r first a b = record {
    before = ReadFirst.before a;
    one = ReadFirst.one a;
    after = ReadFirst.after a ++ Looked.steps b;
    advances = subst (Advances p r) (append_assoc (ReadFirst.before a) (ReadFirst.one a ∷ ReadFirst.after a) (Looked.steps b))
        (advances_trans (view_of p) (view_of q) (view_of r) (ReadFirst.before a ++ ReadFirst.one a ∷ ReadFirst.after a) (Looked.steps b) (ReadFirst.advances a) (Looked.advances b));
    none_before = ReadFirst.none_before a;
    reads = ReadFirst.reads a;
    stamp_is = ReadFirst.stamp_is a;
  }

  -- another insert came between
  pub outrun_again : (p r q : Pass (List Table) Table g) (n : ℕ) → Outrun p r n → Visited r q → stamp_of r < stamp_of q → Outrun p q (n + 1)
  outrun_again p r q n o v later =
      let looked = looked_visited r q v in
      let many : Outrun.first o + n ≤ stamp_of r = Outrun.many o in
      let steps = Outrun.before o ++ visit_at (stamp_of r) in
      let missed = misses_at (Visited.found_held v) in
      record {
        before = steps ++ missed;
        advances = subst (Advances p q) (sym (append_assoc steps missed (visit_at (stamp_of q))))
            (advances_trans (view_of p) (view_of r) (view_of q) steps (missed ++ visit_at (stamp_of q)) (Outrun.advances o) (Visited.advances v));
        looked = looked_looked p r q (Outrun.looked o) looked;
        first = Outrun.first o;
        first_read = reads_more p r q (Outrun.first o) (Outrun.first_read o) looked;
        not_before = Outrun.not_before o;
        many = omega (arith, many, later);
      }

  -- the call read the stamp of the front that its version was built on, and then the stamp of the one that came between
  read_both : (p r q : Pass (List Table) Table g) (n from seen : ℕ) → Outrun p r n → Visited r q → from ≡ stamp_of r → seen ≡ stamp_of q → ReadBoth p q from seen
  read_both p r q n from seen o v from_is seen_is =
      let missed = misses_at (Visited.found_held v) in
      record {
        before = Outrun.before o;
        one = noted Take (stamp_of r);
        between = noted Release (stamp_of r) ∷ missed;
        other = noted Take (stamp_of q);
        after = noted Release (stamp_of q) ∷ [];
        advances = subst (Advances p q) (sym (append_assoc (Outrun.before o ++ visit_at (stamp_of r)) missed (visit_at (stamp_of q))) ∙ ap (λ l. l ++ visit_at (stamp_of q)) (append_assoc (Outrun.before o) (visit_at (stamp_of r)) missed))
            (advances_trans (view_of p) (view_of r) (view_of q) (Outrun.before o ++ visit_at (stamp_of r)) (missed ++ visit_at (stamp_of q)) (Outrun.advances o) (Visited.advances v));
        one_reads = refl;
        other_reads = refl;
        one_stamp = sym from_is;
        other_stamp = sym seen_is;
      }

module _ {size : ℕ} {g : Ghosts (List Table) Table} where
  -- the last try was outrun as well
  pub outrun_at_last : (registry : VtBtree size) (p r q : Pass (List Table) Table g) (t : Table) (n tries from seen : ℕ) → opening_stamp_of registry.cell ≡ 0 → IsPassOf registry.cell r → Outrun p r n → n + 1 ≡ tries
      → has (front_of r) t ≡ false → Visited r q → stamp_of r < stamp_of q → from ≡ stamp_of r → seen ≡ stamp_of q → WasOutrun p q t tries from seen
  outrun_at_last registry p r q t n tries from seen zero own o all absent v later from_is seen_is =
      let looked = looked_visited r q v in
      let first : first_stamp_of r ≡ 0 = first_zero registry r zero own in
      let from_p : first_stamp_of r ≡ first_stamp_of p = ViewAdvances.first (Looked.advances (Outrun.looked o)) in
      let to_q : first_stamp_of q ≡ first_stamp_of r = ViewAdvances.first (Looked.advances looked) in
      let longer : IsPrefix (front_of r) (front_of q) = ViewAdvances.front (Looked.advances looked) in
      let grew : stamp_of p ≤ stamp_of r = stamp_grows p r (Outrun.looked o) in
      let count : length (front_of r) ≡ from = omega (arith, first, from_is) in
      let taken : take from (front_of q) ≡ front_of r = ap (take from) (sym longer.1) ∙ take_at (front_of r) longer.0 from count in
      let many : Outrun.first o + n ≤ stamp_of r = Outrun.many o in
      let begins : stamp_of p ≤ Outrun.first o = Outrun.not_before o in
      record {
        moved = record {
          not_before = omega (arith, grew, first, from_p, count);
          longer = omega (arith, later, from_is, seen_is);
          seen_is = omega (arith, first, to_q, seen_is);
          absent = subst (λ f. has f t ≡ false) (sym taken) absent;
          read = read_both p r q n from seen o v from_is seen_is;
          looked = looked_looked p r q (Outrun.looked o) looked;
        };
        first = Outrun.first o;
        first_read = reads_more p r q (Outrun.first o) (Outrun.first_read o) looked;
        not_before = omega (arith, begins, first, from_p);
        many = omega (arith, many, all, later, seen_is);
      }

  -- A whole pass made every commit, so nobody came before it.
  pub own_if_whole_within : (registry : VtBtree size) (p q : Pass (List Table) Table g) (t : Table) (tries : ℕ) (f : TryFault) → IsPassOf registry.cell p → IsPassOf registry.cell q → IsWithinFault p q t tries f → IsWhole p → IsOwnFault f
  own_if_whole_within registry p q t tries Busy own still h whole = absurd h
  own_if_whole_within registry p q t tries (Moved from seen) own still h whole = own_if_whole registry p q t (Moved from seen) own still (WasOutrun.moved h) whole
  own_if_whole_within registry p q t tries (Full front) own still h whole = tt
  own_if_whole_within registry p q t tries Memory own still h whole = tt

  -- the table was committed on the last front that the call saw
  pub added_at_last : (registry : VtBtree size) (p r q : Pass (List Table) Table g) (t : Table) (n : ℕ) → opening_stamp_of registry.cell ≡ 0 → IsPassOf registry.cell r → Looked p r → IsDistinct (front_of r)
      → has (front_of r) t ≡ false → length (front_of r) < 2 ^ 63 - 1 → Committed r q (front_of r) t × (n ≡ length (front_of r))
      → record { number : IsNumber (front_of q) t n; adds : AddsTable p q t n; distinct : IsDistinct (front_of q) }
  added_at_last registry p r q t n zero own looked once absent room (committed, count) =
      inserted_there registry p r q t n (front_of r) (front_of r ++ t ∷ []) zero own looked once (absent, refl, room) count refl (subst (Committed r q (front_of r)) (sym (last-push (front_of r) t)) committed)

module _ {g : Ghosts (List Table) Table} where
  -- a try that was refused ends the call
  pub refused_at_last : (p r q : Pass (List Table) Table g) (t : Table) (tries : ℕ) (f : TryFault) → Looked p r → IsTriedFault r q t f → IsWithinFault p q t tries f
  refused_at_last p r q t tries Busy looked h = absurd h
  refused_at_last p r q t tries (Moved from seen) looked h = absurd h
  refused_at_last p r q t tries (Full front) looked h = record {
    absent = IsFull.absent h;
    length_is = IsFull.length_is h;
    last_stamp = IsFull.last_stamp h;
    looked = looked_looked p r q looked (IsFull.looked h);
  }
  refused_at_last p r q t tries Memory looked h = then_nothing p r q (no_commit_looked p r looked) h
