-- What the edits of two passes say of a shared set of numbers.
use Rattle.std.proofs.Common.{◌≡◌, ℕ, zero, suc, ◌+◌, ◌-◌, ◌^◌, min, ◌<◌, ◌≤◌, List, [], ◌∷◌, ◌++◌, length, take, Option, Some, None, IsSome, Result, Ok, Err, OnErr, IfOk, if◌then◌else◌, false, sym, refl, ap, ◌∙◌, subst, arith, length-append}
use mathlib.Core.List.{IsPrefix}
use Rattle.std.specs.Borrow.{Bor}
use Rattle.std.specs.Fn.{Mut, CalledAt}
use Rattle.std.specs.List.{slice_get}
use Rattle.std.specs.Option.{is_none}
use Rattle.std.specs.Ordering.{nat_cmp, is_eq, match_ordering}
use Rattle.std.specs.declared.cmp.Ordering.{Ordering}
use Rattle.std.specs.declared.cmp.Ordering.TheVariants.{Less, Equal, Greater}
use Rattle.std.proofs.Math.Nat.{min-eq_left}
use Rattle.std.proofs.lemmas.Option.{none-some, same_Some}
use Rattle.stabby_tree.specs.Sets.{SetValue, found, put, inserted, given_back}
use Rattle.stabby_cell.specs.declared.chronicle.Chronicle.{Ghosts}
use Rattle.stabby_cell.specs.declared.pass.Pass.{Pass}
use Rattle.stabby_cell.specs.declared.replaced.ReplacedCell.{ReplacedCell}
use Rattle.stabby_cell.specs.declared.edit.Edited.{Edited}
use Rattle.stabby_cell.specs.declared.edit.Edited.TheVariants.{Kept, Committed}
use Rattle.stabby_cell.specs.Recording.{ViewAdvances}
use Rattle.stabby_cell.specs.Passes as passes
use Rattle.stabby_cell.specs.Passes.{front_of, first_stamp_of, stamp_of, weight_of, Looked, IsWhole}
use Rattle.stabby_cell.specs.Values.{last_of}
use Rattle.stabby_cell.specs.Replaced.{contents_of, first_contents_of}
use Rattle.stabby_cell.specs.Edits.{Answer, EditCall, Outrun, Ran, Answered, CommitsEdit, Edits}
use Rattle.stabby_cell_uses.specs.Fills.{number_in, size_of, AddsOne, WithNumber, AddsAt, EachAddsOne, CommitsNumber, AddsNumber, AddedOnly}
use Rattle.stabby_cell_uses.proofs.CommitLemmas.{get_prefix, take_prefix, get_last, take_last, each_looked, each_committed, each_entry}

-- what an insert gave back
absent_by : (o : Option ℕ) (n : ℕ) (xs ys : List ℕ) → None ≡ (if is_none o then o else Some n) → (o ≡ None) × ((if is_none o then ys else xs) ≡ ys)
absent_by None n xs ys h = (refl, refl)
absent_by (Some x) n xs ys h = absurd (none-some n h)

pub adds_one : (n : ℕ) (old new : SetValue ℕ) → None ≡ given_back (λ k. k) nat_cmp false old.items n → new.items ≡ inserted (λ k. k) nat_cmp false old.items n → AddsOne n old new
adds_one n old new back is = let both = absent_by (number_in old n) n old.items (put (λ k. k) nat_cmp old.items n) back in record { absent = both.0; items = is ∙ both.1 }

known_by : (o : Option ℕ) (n x : ℕ) → Some x ≡ (if is_none o then o else Some n) → IsSome o
known_by None n x h = absurd (none-some x (sym h))
known_by (Some y) n x h = refl

pub known_number : (n x : ℕ) (old : SetValue ℕ) → Some x ≡ given_back (λ k. k) nat_cmp false old.items n → IsSome (number_in old n)
known_number n x old h = known_by (number_in old n) n x h

-- one number more
length_by : (n x : ℕ) (xs u : List ℕ) (o : Ordering) (rest : Option ℕ) → (if is_eq o then Some x else rest) ≡ None → (rest ≡ None → length u ≡ length xs + 1) → length (match_ordering o (x ∷ u) (n ∷ xs) (n ∷ x ∷ xs)) ≡ length (x ∷ xs) + 1
length_by n x xs u Less rest h more = let k = more h in omega arith
length_by n x xs u Equal rest h more = absurd (none-some x (sym h))
length_by n x xs u Greater rest h more = omega arith

length_put : (n : ℕ) (xs : List ℕ) → found (λ k. k) nat_cmp xs n ≡ None → length (put (λ k. k) nat_cmp xs n) ≡ length xs + 1
length_put n [] h = refl
length_put n (x ∷ xs) h = length_by n x xs (put (λ k. k) nat_cmp xs n) (nat_cmp x n) (found (λ k. k) nat_cmp xs n) h (length_put n xs)

size_adds : (n : ℕ) (old new : SetValue ℕ) → AddsOne n old new → size_of new ≡ size_of old + 1
size_adds n old new a = ap length (AddsOne.items a) ∙ length_put n old.items (AddsOne.absent a)

-- each entry has one number more than the one before
sizes : (first : SetValue ℕ) (entries : List (SetValue ℕ))
    → ((i : ℕ) → i < length entries → (n : ℕ) × (new : SetValue ℕ) × (slice_get entries i ≡ Some new) × AddsOne n (last_of first (take i entries)) new)
    → size_of (last_of first entries) ≡ size_of first + length entries
sizes first [] each = omega arith
sizes first (x ∷ xs) each =
    let one = each zero (omega arith) in
    let rest = sizes x xs (λ i below. each (suc i) (omega arith)) in
    let same : x ≡ one.1 = same_Some x one.1 one.2 in
    let more = size_adds one.0 first one.1 one.3 in
    let sized = ap size_of same in
    omega (arith, rest, more, sized)

pub size_filled : (c : ReplacedCell (SetValue ℕ)) (entries : List (SetValue ℕ)) → EachAddsOne c entries → size_of (contents_of c entries) ≡ size_of (first_contents_of c) + length entries
size_filled c entries each = sizes (first_contents_of c) entries (λ i below. let a = each i below in (AddsAt.number a, AddsAt.new a, AddsAt.stands a, AddsAt.adds a))

pub adds_later : (c : ReplacedCell (SetValue ℕ)) (xs ys : List (SetValue ℕ)) (i : ℕ) → AddsAt c xs i → IsPrefix xs ys → AddsAt c ys i
adds_later c xs ys i a p = record {
  number = AddsAt.number a;
  new = AddsAt.new a;
  stands = get_prefix xs ys i (AddsAt.new a) p (AddsAt.stands a);
  adds = subst (λ l. AddsOne (AddsAt.number a) (contents_of c l) (AddsAt.new a)) (sym (take_prefix xs ys i (AddsAt.new a) p (AddsAt.stands a))) (AddsAt.adds a);
}

adds_last : (c : ReplacedCell (SetValue ℕ)) (before : List (SetValue ℕ)) (n : ℕ) (new : SetValue ℕ) → AddsOne n (contents_of c before) new → AddsAt c (before ++ new ∷ []) (length before)
adds_last c before n new a = record {
  number = n;
  new = new;
  stands = get_last before new;
  adds = subst (λ l. AddsOne n (contents_of c l) new) (sym (take_last before new)) a;
}

-- the last of an edit's calls, where the closure is after each as it was before
module _ {F V : Type 0} (m : Mut F (Bor V × Unit {0}) (Answer V)) (c : ReplacedCell V) (f : F) (Q : V → Answer V → Type 0)
    (each : (t : F) (x : V) (r : Answer V) → CalledAt m f x r t → (t ≡ f) × Q x r) where
  last_call : (calls : List (EditCall V)) (entries : List V) (answer : Answer V) (h : F) → Ran m c f (calls ++ record { entries = entries; answer = answer } ∷ []) h → Q (contents_of c entries) answer
  last_call [] entries answer h ran = (each ran.0 (contents_of c entries) answer ran.1).1
  last_call (call ∷ calls) entries answer h ran =
      last_call calls entries answer h (subst (λ z. Ran m c z (calls ++ record { entries = entries; answer = answer } ∷ []) h) (each ran.0 (contents_of c call.entries) call.answer ran.1).0 ran.2)

outrun_least : {V : Type 0} (least : ℕ) (calls : List (EditCall V)) (entries : List V) → Outrun least calls entries → least ≤ length entries
outrun_least least [] entries h = h
outrun_least least (call ∷ calls) entries h = let first = h.0 in let more = outrun_least (length call.entries + 1) calls entries h.3 in omega (arith, first, more)

module _ {g : Ghosts (SetValue ℕ) (SetValue ℕ)} (c : ReplacedCell (SetValue ℕ)) (n : ℕ) where
  -- what an edit by such a closure left
  pub edit_adds : {F X : Type 0} (m : Mut F (Bor (SetValue ℕ) × Unit {0}) (Answer (SetValue ℕ))) (f : F) (p q : Pass (SetValue ℕ) (SetValue ℕ) g) (tries : ℕ) (r : Result Edited X) → IfOk r (Edits m c f p q tries)
      → ((t : F) (x : SetValue ℕ) (a : Answer (SetValue ℕ)) → CalledAt m f x a t → (t ≡ f) × IfOk a (WithNumber n x)) → IfOk r (AddsNumber c p q n)
  edit_adds m f p q tries (Ok (Kept stamp)) e each =
      (e.0, last_call m c f (λ x a. IfOk a (WithNumber n x)) each (Answered.earlier e.2) (front_of q) (Ok None) (Answered.after e.2) (Answered.ran e.2), e.1)
  edit_adds m f p q tries (Ok (Committed stamp)) e each =
      let a = CommitsEdit.answered e.0 in
      let before = CommitsEdit.before e.0 in
      let committed = CommitsEdit.committed e.0 in
      let least = outrun_least (length (front_of p)) (Answered.earlier a) before (Answered.outrun a) in
      let longer : length (front_of q) ≡ length before + 1 = ap length (passes.Committed.front committed) ∙ length-append before (CommitsEdit.new e.0 ∷ []) in
      let firsts = ViewAdvances.first (passes.Committed.advances committed) in (
        record {
          before = before;
          new = CommitsEdit.new e.0;
          committed = committed;
          adds = last_call m c f (λ x r. IfOk r (WithNumber n x)) each (Answered.earlier a) before (Ok (Some (CommitsEdit.new e.0))) (Answered.after a) (Answered.ran a);
          rose = omega (arith, least, longer, firsts);
          added = CommitsEdit.added e.0;
        },
        e.1,
      )
  edit_adds m f p q tries (Err x) e each = tt

  -- from call to call
  pub added_by : {X : Type 0} (p q : Pass (SetValue ℕ) (SetValue ℕ) g) (r : Result Edited X) → IfOk r (AddsNumber c p q n) → OnErr r (Looked p q) → AddedOnly c p → AddedOnly c q
  added_by p q (Ok (Kept stamp)) h k s = each_looked (AddsAt c) (adds_later c) p q s h.0
  added_by p q (Ok (Committed stamp)) h k s =
      each_committed (AddsAt c) (adds_later c) p q (CommitsNumber.before h.0) (CommitsNumber.new h.0) s (CommitsNumber.committed h.0) (adds_last c (CommitsNumber.before h.0) n (CommitsNumber.new h.0) (CommitsNumber.adds h.0))
  added_by p q (Err x) h k s = each_looked (AddsAt c) (adds_later c) p q s k

  pub front_added : {X : Type 0} (p q : Pass (SetValue ℕ) (SetValue ℕ) g) (r : Result Edited X) → IfOk r (AddsNumber c p q n) → OnErr r (Looked p q) → IsPrefix (front_of p) (front_of q)
  front_added p q (Ok (Kept stamp)) h k = ViewAdvances.front (Looked.advances h.0)
  front_added p q (Ok (Committed stamp)) h k = ViewAdvances.front (passes.Committed.advances (CommitsNumber.committed h.0))
  front_added p q (Err x) h k = ViewAdvances.front (Looked.advances k)

  pub weight_added : {X : Type 0} (p q : Pass (SetValue ℕ) (SetValue ℕ) g) (r : Result Edited X) → IfOk r (AddsNumber c p q n) → OnErr r (Looked p q) → weight_of q ≡ weight_of p
  weight_added p q (Ok (Kept stamp)) h k = ViewAdvances.weight (Looked.advances h.0)
  weight_added p q (Ok (Committed stamp)) h k = ViewAdvances.weight (passes.Committed.advances (CommitsNumber.committed h.0))
  weight_added p q (Err x) h k = ViewAdvances.weight (Looked.advances k)

-- a whole pass made every commit, so there are as many numbers more as entries
pub whole_size : {g : Ghosts (SetValue ℕ) (SetValue ℕ)} (c : ReplacedCell (SetValue ℕ)) (q : Pass (SetValue ℕ) (SetValue ℕ) g) → passes.IsPassOf c.cell q → AddedOnly c q → IsWhole q → size_of (contents_of c (front_of q)) ≡ size_of (first_contents_of c) + length (front_of q)
whole_size c q own s whole = size_filled c (front_of q) (each_entry (AddsAt c) q s (passes.IsPassOf.knows own whole))

-- a count that is far from its limit
pub counted : (size seen len : ℕ) → len ≡ min size (2 ^ 64 - 1) → size ≡ seen → seen < 2 ^ 63 → len ≡ seen
counted size seen len is same below = is ∙ (min-eq_left {n = size} (omega (arith, same, below)) ∙ same)
