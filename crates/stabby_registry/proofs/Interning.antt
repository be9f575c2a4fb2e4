-- From the joined passes of all workers to what interning a list of tables means.
use Rattle.std.proofs.Common.{◌≡◌, ℕ, suc, ◌+◌, ◌-◌, ◌*◌, ◌<◌, ◌≤◌, min, List, [], ◌∷◌, ◌++◌, length, take, map, refl, sym, ◌∙◌, ap, subst, arith, Bool, true, false, if◌then◌else◌, inl, inr, ◌⊎◌}
use mathlib.Core.Bool.{false≢true}
use Rattle.std.specs.List.{Contains}
use Rattle.std.proofs.Math.Nat.{mod-lt}
use Rattle.std.proofs.lemmas.Bool.{cases_lt}
use Rattle.std.proofs.lemmas.List.{get_or_default, length-map, length-take, take_all}
use Rattle.std.proofs.lemmas.Nat.{div-add-mod', mul-le}
use Rattle.std.proofs.lemmas.Option.{same_Some, slice_get_within}
use Rattle.stabby_cell.specs.declared.chronicle.Chronicle.{Ghosts}
use Rattle.stabby_cell.specs.declared.pass.Pass.{Pass}
use Rattle.stabby_cell.specs.Rule.{times}
use Rattle.stabby_cell.specs.Passes.{front_of, weight_of, commits_of, opening_stamp_of, IsPassOf, IsWhole, IsEachOnce, Looked}
use Rattle.stabby_cell.proofs.CallLemmas.{no_commit_looked}
use Rattle.stabby_cell.proofs.StampLemmas.{member_of_times}
use Rattle.stabby_tables.specs.Tables.{Table, is_same}
use Rattle.stabby_tables.specs.Lists.{has, place, IsDistinct, AppendsSome, AppendsAbsent}
use Rattle.stabby_tables.specs.Shares.{share_size, IsFirstInShare}
use Rattle.stabby_tables.proofs.Growing.{equal_from_same}
use Rattle.stabby_registry.specs.declared.registry.VtBtree.{VtBtree}
use Rattle.stabby_registry.specs.Inserts.{IsNumber}
use Rattle.stabby_registry.specs.Work.{AreIn, StandsFirstInShare, AreJoined, AreNumbered}
use Rattle.stabby_registry.proofs.Versions.{number_of_place}
use Rattle.stabby_registry.proofs.PassLemmas.{whole_stays}
use Rattle.stabby_registry.proofs.Inserting.{first_zero}
use Rattle.stabby_registry.proofs.Working.{numbers_below}

-- ---- shares
-- the shares cover the list
pub shares_cover : (n w : ℕ) → 1 ≤ w → n ≤ w * share_size n w
shares_cover n w some = omega (arith, some, div-add-mod' (n + (w - 1)) w, mod-lt (n + (w - 1)) {m = w} some)

-- a place stands in one share alone
no_later : (j k size p : ℕ) → j * size ≤ p → p < (k + 1) * size → j ≤ k
no_later j k size p low high = by (cases_lt k j)
  where
    by : (k < j) ⊎ (j ≤ k) → j ≤ k
    by (inl less) = absurd (omega (arith, low, high, mul-le (k + 1) size j size (omega (arith, less)) (omega arith)))
    by (inr le) = le

pub place_of_share : (j k size p q : ℕ) → j * size ≤ p → p < (k + 1) * size → k * size ≤ q → j * size ≤ q
place_of_share j k size p q low high from = omega (arith, from, mul-le j size k size (no_later j k size p low high) (omega arith))

-- ---- lists
number_behind : (f more : List Table) (t : Table) (n : ℕ) → IsNumber more t n → IsNumber (f ++ more) t (length f + n)
number_behind [] more t n at = subst (IsNumber more t) (omega arith) at
number_behind (u ∷ f) more t n at =
    let e : suc (length f + n) ≡ length (u ∷ f) + n = omega arith in
    subst (IsNumber (u ∷ (f ++ more)) t) e (number_behind f more t n at)

is_in : (f ts : List Table) (t : Table) → AreIn f ts → has ts t ≡ true → has f t ≡ true
is_in f [] t all member = absurd (false≢true member)
is_in f (u ∷ ts) t all member = by (is_same u t) refl member (is_in f ts t all.1)
  where
    by : (b : Bool) → is_same u t ≡ b → (if b then true else has ts t) ≡ true → (has ts t ≡ true → has f t ≡ true) → has f t ≡ true
    by true same h rest = ap (has f) (sym (equal_from_same u t same)) ∙ all.0
    by false other h rest = rest h

module _ {g : Ghosts (List Table) Table} (registry : VtBtree 5) (start p : Pass (List Table) Table g) (opens : opening_stamp_of registry.cell ≡ 0) (own : IsPassOf registry.cell start) (own' : IsPassOf registry.cell p)
    (whole : IsWhole start) (whole' : IsWhole p) where
  -- a whole pass made each commit of its front, and no other
  old_below : (v : ℕ) → Contains (commits_of start) v → v < length (front_of start)
  old_below v inside = omega (arith, (IsEachOnce.no_other (IsPassOf.knows own whole) v inside).1, first_zero registry start opens own)

  made : (v : ℕ) → v < length (front_of p) → Contains (commits_of p) v
  made v below =
      let zero_is = first_zero registry p opens own' in
      let once : times v (commits_of p) ≡ 1 = IsEachOnce.once (IsPassOf.knows own' whole') v (omega (arith, zero_is)) (omega (arith, below, zero_is)) in
      member_of_times (commits_of p) v (omega (arith, once))

  module _ (ts : List Table) (size k : ℕ) (so : AreJoined (front_of start) (commits_of start) p ts size k) where
    -- no more tables were added than there are
    pub few_added : length (front_of p) ≤ length (front_of start) + length ts
    few_added = omega (arith, AreJoined.few so, IsEachOnce.count (IsPassOf.knows own whole), IsEachOnce.count (IsPassOf.knows own' whole'), length-take (k * size) ts)

    -- a table that was added is one of the list
    added_table : (v : ℕ) → length (front_of start) ≤ v → v < length (front_of p) → (t : Table) × (has ts t ≡ true) × IsNumber (front_of p) t v
    added_table v low high = by (AreJoined.from so v (made v high))
      where
        by : Contains (commits_of start) v ⊎ ((t : Table) × (has ts t ≡ true) × IsNumber (front_of p) t v) → (t : Table) × (has ts t ≡ true) × IsNumber (front_of p) t v
        by (inl old) = absurd (omega (arith, low, old_below v old))
        by (inr new) = new

    pub appends_some : IsDistinct (front_of p) → AppendsSome (front_of start) ts (front_of p)
    appends_some once = record { added = so.grown.0; appended = sym so.grown.1; once = once; from = λ t member. by t member }
      where
        by : (t : Table) → has so.grown.0 t ≡ true → has ts t ≡ true
        by t member =
            let v : ℕ = length (front_of start) + place so.grown.0 t in
            let at : IsNumber (front_of p) t v = subst (λ l. IsNumber l t v) so.grown.1 (number_behind (front_of start) so.grown.0 t (place so.grown.0 t) (number_of_place so.grown.0 t member)) in
            let new = added_table v (omega arith) (slice_get_within (front_of p) v t at) in
            subst (λ u. has ts u ≡ true) (same_Some new.0 t (sym new.2 ∙ at)) new.1

    module _ (numbers : List ℕ) (numbered : AreNumbered (commits_of start) p ts size k numbers) (cover : length ts ≤ k * size) where
      all_taken : take (k * size) ts ≡ ts
      all_taken = take_all (k * size) ts cover

      pub all_known : AreIn (front_of p) ts
      all_known = subst (AreIn (front_of p)) all_taken (AreNumbered.known numbered)

      pub all_numbered : numbers ≡ map (place (front_of p)) ts
      all_numbered = AreNumbered.numbered numbered ∙ ap (map (place (front_of p))) all_taken

      pub appends_absent : IsDistinct (front_of p) → AppendsAbsent (front_of start) ts (front_of p)
      appends_absent once = record { some = appends_some once; every = λ t member. is_in (front_of p) ts t all_known member }

      -- a number of this call is met first in some worker's share
      pub met_first : (v : ℕ) → Contains numbers v → length (front_of start) ≤ v → StandsFirstInShare size numbers v
      met_first v there low = by (AreNumbered.first numbered v (made v below))
        where
          below : v < length (front_of p)
          below = omega (arith, numbers_below (front_of p) ts numbers all_known all_numbered there.0 there.1, get_or_default numbers there.0 v 0 there.1, there.2)

          by : Contains (commits_of start) v ⊎ StandsFirstInShare size numbers v → StandsFirstInShare size numbers v
          by (inl old) = absurd (omega (arith, low, old_below v old))
          by (inr new) = new

-- and so in its share
pub first_in_share : (numbers : List ℕ) (size workers old n : ℕ) → length numbers ≡ n → size ≡ share_size n workers → ((v : ℕ) → Contains numbers v → old ≤ v → StandsFirstInShare size numbers v) → IsFirstInShare numbers workers old
first_in_share numbers size workers old n long is met v there low =
    let at = met v there low in
    let same : share_size (length numbers) workers ≡ size = ap (λ (m : ℕ). share_size m workers) long ∙ sym is in (
      at.at,
      at.within,
      at.reads,
      λ k q p_in q_in lt.
          let high : at.at < (k + 1) * size = omega (arith, subst (λ (m : ℕ). at.at < min ((k + 1) * m) (length numbers)) same p_in.1) in
          let from : k * size ≤ q = subst (λ (m : ℕ). k * m ≤ q) same q_in.0 in
          rw at.reads (at.first q (place_of_share at.worker k size at.at q at.from high from) lt),
    )

-- ---- what `intern_all` answers, from what its workers left: p, and q once the entries were read
module _ {g : Ghosts (List Table) Table} (registry : VtBtree 5) (start p q : Pass (List Table) Table g) (opens : opening_stamp_of registry.cell ≡ 0) (own : IsPassOf registry.cell start) (own' : IsPassOf registry.cell p)
    (own'' : IsPassOf registry.cell q) (whole : IsWhole start) (same_weight : weight_of p ≡ weight_of start) (looked : Looked p q) (once : IsDistinct (front_of q)) (ts : List Table) (workers : ℕ)
    (so : AreJoined (front_of start) (commits_of start) p ts (share_size (length ts) workers) workers) where
  whole_then : IsWhole p
  whole_then = same_weight ∙ whole

  same_front : front_of q ≡ front_of p
  same_front = whole_stays registry.cell p q own' own'' whole_then (no_commit_looked p q looked)

  once_then : IsDistinct (front_of p)
  once_then = subst IsDistinct same_front once

  pub interned_some : AppendsSome (front_of start) ts (front_of q)
  interned_some = subst (AppendsSome (front_of start) ts) (sym same_front) (appends_some registry start p opens own own' whole whole_then ts (share_size (length ts) workers) workers so once_then)

  module _ (numbers : List ℕ) (numbered : AreNumbered (commits_of start) p ts (share_size (length ts) workers) workers numbers) (some : 1 ≤ workers) where
    cover : length ts ≤ workers * share_size (length ts) workers
    cover = shares_cover (length ts) workers some

    pub interned_absent : AppendsAbsent (front_of start) ts (front_of q)
    interned_absent = subst (AppendsAbsent (front_of start) ts) (sym same_front) (appends_absent registry start p opens own own' whole whole_then ts (share_size (length ts) workers) workers so numbers numbered cover once_then)

    pub interned_numbers : numbers ≡ map (place (front_of q)) ts
    interned_numbers = all_numbered registry start p opens own own' whole whole_then ts (share_size (length ts) workers) workers so numbers numbered cover ∙ ap (λ f. map (place f) ts) (sym same_front)

    pub interned_known : AreIn (front_of q) ts
    interned_known = subst (λ f. AreIn f ts) (sym same_front) (all_known registry start p opens own own' whole whole_then ts (share_size (length ts) workers) workers so numbers numbered cover)

    pub interned_first : IsFirstInShare numbers workers (length (front_of start))
    interned_first = first_in_share numbers (share_size (length ts) workers) workers (length (front_of start)) (length ts)
        (ap length interned_numbers ∙ length-map ts (place (front_of q))) refl (met_first registry start p opens own own' whole whole_then ts (share_size (length ts) workers) workers so numbers numbered cover)
