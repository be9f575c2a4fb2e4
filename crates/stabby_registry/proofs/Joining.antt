-- What the passes of all workers know once they are joined.
use Rattle.std.proofs.Common.{◌≡◌, ℕ, zero, suc, ◌+◌, ◌-◌, ◌*◌, ◌<◌, List, [], ◌∷◌, ◌++◌, length, take, drop, refl, sym, ◌∙◌, ap, subst, arith, Bool, true, false, ◌||◌, length-append, length-drop, inl, inr, ◌⊎◌, Result, Ok, Err, Vec}
use mathlib.Core.List.{IsPrefix}
use Rattle.std.specs.List.{Contains, slice_index, slice_index_or}
use Rattle.std.proofs.Math.Seq.{take-add, take-length, get_or-append_seam}
use Rattle.std.proofs.lemmas.List.{get_or_append_left, get_or-append-add, length-map, length-take, take-append-drop}
use Rattle.stabby_cell.specs.declared.chronicle.Chronicle.{Ghosts}
use Rattle.stabby_cell.specs.declared.pass.Pass.{Pass}
use Rattle.stabby_cell.specs.Passes.{front_of, commits_of, Joined}
use Rattle.stabby_cell.proofs.RecordLemmas.{prefix_trans}
use Rattle.stabby_tables.specs.Tables.{Table}
use Rattle.stabby_tables.specs.Lists.{has, place}
use Rattle.stabby_tables.proofs.Growing.{has-append, has_old}
use Rattle.stabby_registry.specs.declared.fault.RegistryFault.{RegistryFault}
use Rattle.stabby_registry.specs.declared.fault.RegistryFault.TheVariants.{Full, RowFull, Memory}
use Rattle.stabby_registry.specs.declared.registry.VtBtree.{VtBtree}
use Rattle.stabby_registry.specs.declared.worker.Job.{Job}
use Rattle.stabby_registry.specs.Inserts.{IsNumber}
use Rattle.stabby_registry.specs.Work.{StandsFirstInShare, HasWorked, HasStopped, StopsFor, AreJoined, AreNumbered, HasOutcome, HaveOutcome, AreTogether, IsDone, share_of}
use Rattle.stabby_registry.proofs.PassLemmas.{prefix_length}
use Rattle.stabby_registry.proofs.Working.{in_longer, in_both, places_stay, map-append, table_at}

-- ---- members of parts
or_true : (b c : Bool) → c ≡ true → (b || c) ≡ true
or_true true c is = refl
or_true false c is = is

has_in_first : (i : ℕ) (ts : List Table) (u : Table) → has (take i ts) u ≡ true → has ts u ≡ true
has_in_first i ts u member = ap (λ l. has l u) (sym (take-append-drop i ts)) ∙ has_old (take i ts) (drop i ts) u member

has_in_rest : (i : ℕ) (ts : List Table) (u : Table) → has (drop i ts) u ≡ true → has ts u ≡ true
has_in_rest i ts u member = ap (λ l. has l u) (sym (take-append-drop i ts)) ∙ has-append (take i ts) (drop i ts) u ∙ or_true (has (take i ts) u) (has (drop i ts) u) member

has_in_share : (ts : List Table) (size k done : ℕ) (u : Table) → has (take done (share_of ts size k)) u ≡ true → has ts u ≡ true
has_in_share ts size k done u member = has_in_rest (k * size) ts u (has_in_first size (drop (k * size) ts) u (has_in_first done (share_of ts size k) u member))

-- a number of a list that grew
pub number_stays : (f h : List Table) (t : Table) (n : ℕ) → IsPrefix f h → IsNumber f t n → IsNumber h t n
number_stays f h t n grows at = subst (λ l. IsNumber l t n) grows.1 (in_more f grows.0 n at)
  where
    in_more : (f more : List Table) (n : ℕ) → IsNumber f t n → IsNumber (f ++ more) t n
    in_more [] more n at = absurd (cc)
    in_more (u ∷ f) more zero at = at
    in_more (u ∷ f) more (suc n) at = in_more f more n at

-- ---- members of two lists of numbers
in_either : (xs ys : List ℕ) (v : ℕ) → Contains (xs ++ ys) v → Contains xs v ⊎ Contains ys v
in_either [] ys v inside = inr inside
in_either (x ∷ xs) ys v (zero, within, at) = inl (zero, omega arith, at)
in_either (x ∷ xs) ys v (suc k, within, at) = elim (in_either xs ys v (k, omega (arith, within), at)) [
  | inl (j, below, here) ↦ inl (suc j, omega (arith, below), here)
  | inr there ↦ inr there
]

-- the tables of the first k + 1 workers
shares_more : (ts : List Table) (size k : ℕ) → take ((k + 1) * size) ts ≡ take (k * size) ts ++ share_of ts size k
shares_more ts size k = ap (λ n. take n ts) more ∙ take-add (k * size) size ts
  where
    more : (k + 1) * size ≡ k * size + size
    more = omega arith

module _ {g : Ghosts (List Table) Table} where
  -- one worker's pass more, which was done with the first `done` of its tables
  pub joined_more : (front : List Table) (commits : List ℕ) (p q r : Pass (List Table) Table g) (ts : List Table) (size k done : ℕ) (numbers : List ℕ) → AreJoined front commits p ts size k → HasWorked q (take done (share_of ts size k)) numbers → Joined p q r
      → IsPrefix (front_of p) (front_of r) → IsPrefix (front_of q) (front_of r) → AreJoined front commits r ts size (k + 1)
  joined_more front commits p q r ts size k done numbers so worked joined first second = record {
    grown = prefix_trans front (front_of p) (front_of r) (AreJoined.grown so) first;
    from = λ v inside. by v (in_either (commits_of p) (commits_of q) v (subst (λ l. Contains l v) (Joined.commits joined) inside));
    few = omega (
      arith,
      AreJoined.few so,
      HasWorked.few worked,
      ap length (Joined.commits joined),
      length-append (commits_of p) (commits_of q),
      ap length (shares_more ts size k),
      length-append (take (k * size) ts) (share_of ts size k),
      length-take done (share_of ts size k),
    );
  }
    where
      by : (v : ℕ) → Contains (commits_of p) v ⊎ Contains (commits_of q) v → Contains commits v ⊎ ((t : Table) × (has ts t ≡ true) × IsNumber (front_of r) t v)
      by v (inl old) = elim (AreJoined.from so v old) [
        | inl before ↦ inl before
        | inr (t, member, at) ↦ inr (t, member, number_stays (front_of p) (front_of r) t v first at)
      ]
      by v (inr new) =
          let at = HasWorked.first worked v new in
          let is = HasWorked.numbered worked in
          let here = table_at (front_of q) (take done (share_of ts size k)) at.0 v (HasWorked.known worked) (omega (arith, at.1, ap length is)) (ap (λ l. slice_index l at.0) (sym is) ∙ at.2) in
          inr (here.0, has_in_share ts size k done here.0 here.1, number_stays (front_of q) (front_of r) here.0 v second here.2)

  -- and its numbers behind those of the workers before it
  pub numbered_more : (commits : List ℕ) (p q r : Pass (List Table) Table g) (ts : List Table) (size k : ℕ) (numbers more : List ℕ) → AreNumbered commits p ts size k numbers → HasWorked q (share_of ts size k) more → Joined p q r
      → IsPrefix (front_of p) (front_of r) → IsPrefix (front_of q) (front_of r) → AreNumbered commits r ts size (k + 1) (numbers ++ more)
  numbered_more commits p q r ts size k numbers more so worked joined first second = record {
    known = rw (shares_more ts size k) (in_both (front_of r) (take (k * size) ts) (share_of ts size k) (in_longer (front_of p) (front_of r) (take (k * size) ts) first (AreNumbered.known so))
        (in_longer (front_of q) (front_of r) (share_of ts size k) second (HasWorked.known worked)));
    numbered = rw (
      shares_more ts size k,
      map-append (place (front_of r)) (take (k * size) ts) (share_of ts size k),
      places_stay (front_of p) (front_of r) (take (k * size) ts) first (AreNumbered.known so),
      places_stay (front_of q) (front_of r) (share_of ts size k) second (HasWorked.known worked),
      ← AreNumbered.numbered so,
      ← HasWorked.numbered worked,
    ) refl;
    first = λ v inside. by v (in_either (commits_of p) (commits_of q) v (subst (λ l. Contains l v) (Joined.commits joined) inside));
  }
    where
      by : (v : ℕ) → Contains (commits_of p) v ⊎ Contains (commits_of q) v → Contains commits v ⊎ StandsFirstInShare size (numbers ++ more) v
      by v (inl old) = elim (AreNumbered.first so v old) [
        | inl before ↦ inl before
        | inr here ↦ inr (record {
          worker = here.worker;
          at = here.at;
          from = here.from;
          below = here.below;
          within = omega (arith, here.within, length-append numbers more);
          reads = get_or_append_left numbers more 0 here.at here.within ∙ here.reads;
          first = λ i low lt. rw (get_or_append_left numbers more 0 i (omega (arith, here.within, lt))) (here.first i low lt);
        })
      ]
      by v (inr new) =
          let at = HasWorked.first worked v new in
          let before : length numbers ≡ length (take (k * size) ts) = ap length (AreNumbered.numbered so) ∙ length-map (take (k * size) ts) (place (front_of p)) in
          let here : length more ≡ length (share_of ts size k) = ap length (HasWorked.numbered worked) ∙ length-map (share_of ts size k) (place (front_of q)) in
          let first_long = length-take (k * size) ts in
          let share_long = length-take size (drop (k * size) ts) in
          let rest_long = length-drop (k * size) ts in
          let start_is : length numbers ≡ k * size = omega (arith, at.1, before, here, first_long, share_long, rest_long) in
          inr (record {
            worker = k;
            at = length numbers + at.0;
            from = omega (arith, start_is);
            below = omega (arith, start_is, at.1, here, share_long);
            within = omega (arith, at.1, length-append numbers more);
            reads = get_or-append-add numbers more at.0 0 ∙ at.2;
            first = λ i low lt.
                let there : i ≡ length numbers + (i - length numbers) = omega (arith, low, start_is) in
                let smaller = at.3 (i - length numbers) (omega (arith, low, lt, start_is)) in
                subst (λ (j : ℕ). slice_index (numbers ++ more) j < v) (sym there) (rw (get_or-append-add numbers more (i - length numbers) 0) smaller);
          })

  stops_later : (p q : Pass (List Table) Table g) (fault : RegistryFault) → IsPrefix (front_of p) (front_of q) → StopsFor fault p → StopsFor fault q
  stops_later p q (Full front) grows stops = omega (arith, stops, prefix_length (front_of p) (front_of q) grows)
  stops_later p q (RowFull claimed needed) grows stops = stops
  stops_later p q Memory grows stops = tt

  -- the workers so far, and one more
  pub outcome_more : {A : Type 0} (commits : List ℕ) (p q r : Pass (List Table) Table g) (ts : List Table) (size k : ℕ) (before after all : Result (Vec ℕ A) RegistryFault) → HaveOutcome commits p ts size k before → HasOutcome q (share_of ts size k) after
      → Joined p q r → IsPrefix (front_of p) (front_of r) → IsPrefix (front_of q) (front_of r) → AreTogether before after all → HaveOutcome commits r ts size (k + 1) all
  outcome_more commits p q r ts size k (Ok a) (Ok b) (Ok c) so worked joined first second is = subst (AreNumbered commits r ts size (k + 1)) (sym is) (numbered_more commits p q r ts size k a.items b.items so worked joined first second)
  outcome_more commits p q r ts size k (Ok a) (Err f) (Ok c) so worked joined first second is = absurd is
  outcome_more commits p q r ts size k (Err f) after (Ok c) so worked joined first second is = absurd is
  outcome_more commits p q r ts size k before after (Err f) so worked joined first second (inl memory) = subst (λ h. StopsFor h r) (sym memory) tt
  outcome_more commits p q r ts size k before after (Err f) so worked joined first second (inr (inl earlier)) = stops_later p r f first (subst (HaveOutcome commits p ts size k) earlier so)
  outcome_more commits p q r ts size k before after (Err f) so worked joined first second (inr (inr now)) = stops_later q r f second (HasStopped.stops (subst (HasOutcome q (share_of ts size k)) now worked))

  -- a worker's pass joins, whether it was done or stopped
  pub joined_any : {A : Type 0} (front : List Table) (commits : List ℕ) (p q r : Pass (List Table) Table g) (ts : List Table) (size k : ℕ) (outcome : Result (Vec ℕ A) RegistryFault) → AreJoined front commits p ts size k
      → HasOutcome q (share_of ts size k) outcome → Joined p q r → IsPrefix (front_of p) (front_of r) → IsPrefix (front_of q) (front_of r) → AreJoined front commits r ts size (k + 1)
  joined_any front commits p q r ts size k (Ok numbers) so worked joined first second =
      joined_more front commits p q r ts size k (length (share_of ts size k)) numbers.items so (subst (λ l. HasWorked q l numbers.items) (sym (take-length (share_of ts size k))) worked) joined first second
  joined_any front commits p q r ts size k (Err fault) so stop joined first second =
      joined_more front commits p q r ts size k (HasStopped.done stop) (HasStopped.numbers stop) so (HasStopped.worked stop) joined first second

-- the worker of a job among all
pub done_at : (registry : VtBtree 5) (ts : List Table) (size : ℕ) (all before : List Job) (job : Job) (rest : List Job) → before ++ job ∷ rest ≡ all
    → ((i : ℕ) (d : Job) → i < length all → IsDone registry (share_of ts size i) (slice_index_or all i d)) → IsDone registry (share_of ts size (length before)) job
done_at registry ts size all before job rest is done =
    subst (IsDone registry (share_of ts size (length before))) (ap (λ l. slice_index_or l (length before) job) (sym is) ∙ get_or-append_seam before job rest job)
    (done (length before) job (omega (arith, ap length is, length-append before (job ∷ rest))))
