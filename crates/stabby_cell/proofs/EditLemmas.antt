-- The calls of an edit's closure, and what they say of the pass.
use Rattle.std.proofs.Common.{◌≡◌, ℕ, ◌+◌, ◌-◌, ◌^◌, ◌<◌, ◌≤◌, ◌⊎◌, inl, inr, true, false, List, [], ◌∷◌, ◌++◌, length, Option, Some, None, Result, Ok, Err, sym, refl, ap, ◌∙◌, subst, arith, append_assoc, append-nil, length-append}
use mathlib.Core.List.{IsPrefix}
use Rattle.std.specs.Borrow.{Bor}
use Rattle.std.specs.Fn.{Mut, CalledAt}
use Rattle.stabby_cell.specs.declared.chronicle.Chronicle.{Ghosts}
use Rattle.stabby_cell.specs.declared.pass.Pass.{Pass}
use Rattle.stabby_cell.specs.declared.replaced.ReplacedCell.{ReplacedCell}
use Rattle.stabby_cell.specs.declared.view.NotedStep.{NotedStep}
use Rattle.stabby_cell.specs.declared.view.StepKind.TheVariants.{Take, Release, Commit}
use Rattle.stabby_cell.specs.Telling.{noted}
use Rattle.stabby_cell.specs.Recording.{ViewAdvances, has_read, commits_in, misses_at}
use Rattle.stabby_cell.specs.Passes as passes
use Rattle.stabby_cell.specs.Passes.{view_of, front_of, first_stamp_of, stamp_of, commits_of, weight_of, IsWhole, IsEachOnce, Advances, Looked, Committed}
use Rattle.stabby_cell.specs.Visits.{Visited}
use Rattle.stabby_cell.specs.Replaced.{contents_of}
use Rattle.stabby_cell.specs.Edits.{Answer, EditCall, Outrun, Ran, ReadFirst, Answered, CommitsEdit, LosesEdit}
use Rattle.stabby_cell.proofs.RecordLemmas.{prefix_trans, advances_trans, commits_in-append}
use Rattle.stabby_cell.proofs.CallLemmas.{looked_looked, looked_committed}
use Rattle.stabby_cell.proofs.VisitLemmas.{prefix_length, looked_visited}

abbrev call_of : {V : Type 0} → List V → Answer V → EditCall V
call_of entries answer = record { entries = entries; answer = answer }

has_read-misses : (ts : List ℕ) → has_read (misses_at ts) ≡ false
has_read-misses [] = refl
has_read-misses (t ∷ ts) = has_read-misses ts

outrun_more : {V : Type 0} (least : ℕ) (calls : List (EditCall V)) (entries front : List V) (new : V) → Outrun least calls entries → IsPrefix entries front → length entries < length front → Outrun least (calls ++ call_of entries (Ok (Some new)) ∷ []) front
outrun_more least [] entries front new h p lt = (h, p, (new, refl), omega arith)
outrun_more least (call ∷ calls) entries front new h p lt = (h.0, prefix_trans call.entries entries front h.1 p, h.2, outrun_more (length call.entries + 1) calls entries front new h.3 p lt)

module _ {F V : Type 0} (m : Mut F (Bor V × Unit {0}) (Answer V)) (c : ReplacedCell V) where
  ran_more : (f : F) (calls : List (EditCall V)) (h : F) (entries : List V) (answer : Answer V) (k : F) → Ran m c f calls h → CalledAt m h (contents_of c entries) answer k → Ran m c f (calls ++ call_of entries answer ∷ []) k
  ran_more f [] h entries answer k r called = (k, subst (λ z. CalledAt m z (contents_of c entries) answer k) r called, refl)
  ran_more f (call ∷ calls) h entries answer k r called = (r.0, r.1, ran_more r.0 calls h entries answer k r.2 called)

  -- a call on these contents that answered so
  pub called_on : (f h : F) (x y : V) (r s : Answer V) → CalledAt m f x r h → x ≡ y → r ≡ s → CalledAt m f y s h
  called_on f h x y r s called same is = subst (λ z. CalledAt m f z s h) same (subst (λ z. CalledAt m f x z h) is called)

module _ {V : Type 0} {g : Ghosts V V} where
  -- the first read of a visit is its take
  visit_reads : (p q : Pass V V g) → Visited p q → ReadFirst p q (stamp_of q)
  visit_reads p q v = record {
    before = misses_at (Visited.found_held v);
    one = noted Take (stamp_of q);
    after = noted Release (stamp_of q) ∷ [];
    advances = Visited.advances v;
    none_before = has_read-misses (Visited.found_held v);
    reads = refl;
    stamp_is = refl;
  }

  -- further steps leave the first read
  reads_more : (p q r : Pass V V g) (first : ℕ) → ReadFirst p q first → Looked q r → ReadFirst p r first
  reads_more p q r first a b = record {
    before = ReadFirst.before a;
    one = ReadFirst.one a;
    after = ReadFirst.after a ++ Looked.steps b;
    advances = subst (Advances p r) (append_assoc (ReadFirst.before a) (ReadFirst.one a ∷ ReadFirst.after a) (Looked.steps b))
        (advances_trans (view_of p) (view_of q) (view_of r) (ReadFirst.before a ++ ReadFirst.one a ∷ ReadFirst.after a) (Looked.steps b) (ReadFirst.advances a) (Looked.advances b));
    none_before = ReadFirst.none_before a;
    reads = ReadFirst.reads a;
    stamp_is = ReadFirst.stamp_is a;
  }

  front_grows : (p q : Pass V V g) → Looked p q → IsPrefix (front_of p) (front_of q)
  front_grows p q a = ViewAdvances.front (Looked.advances a)

  first_stays : (p q : Pass V V g) → Looked p q → first_stamp_of q ≡ first_stamp_of p
  first_stays p q a = ViewAdvances.first (Looked.advances a)

  stamp_grows : (p q : Pass V V g) → Looked p q → stamp_of p ≤ stamp_of q
  stamp_grows p q a =
      let longer : length (front_of p) ≤ length (front_of q) = prefix_length (front_of p) (front_of q) (front_grows p q a) in
      let firsts : first_stamp_of q ≡ first_stamp_of p = first_stays p q a in omega arith

  commits_stay : (p q : Pass V V g) → Looked p q → commits_of q ≡ commits_of p
  commits_stay p q a = ViewAdvances.commits (Looked.advances a) ∙ (ap (λ l. commits_of p ++ l) (Looked.no_commit a) ∙ append-nil (commits_of p))

  one_added : (p q : Pass V V g) (before : List V) (e : V) → Committed p q before e → length (commits_of q) ≡ length (commits_of p) + 1
  one_added p q before e a =
      let one : List NotedStep = noted Commit (first_stamp_of p + length before) ∷ [] in
      let is : commits_of q ≡ commits_of p ++ (first_stamp_of p + length before) ∷ [] = ViewAdvances.commits (Committed.advances a) ∙ ap (λ l. commits_of p ++ l) (commits_in-append (Committed.steps a) one ∙ ap (λ l. l ++ (first_stamp_of p + length before) ∷ []) (Committed.no_other a)) in
      ap length is ∙ length-append (commits_of p) ((first_stamp_of p + length before) ∷ [])

  module _ {F : Type 0} (m : Mut F (Bor V × Unit {0}) (Answer V)) (c : ReplacedCell V) (f : F) (p : Pass V V g) where
    -- once the contents have been read
    pub record Reading (h : F) (r : Pass V V g) (n : ℕ) : Type 0 where
      pub calls : List (EditCall V)
      pub ran : Ran m c f calls h
      pub outrun : Outrun (length (front_of p)) calls (front_of r)
      pub count : length calls ≡ n
      pub first : ℕ
      pub first_read : ReadFirst p r first
      pub not_before : stamp_of p ≤ first
      pub many : first + n ≤ stamp_of r
      pub looked : Looked p r

    pub read_afresh : (r : Pass V V g) → Visited p r → Reading f r 0
    read_afresh r v = let looked = looked_visited p r v in let grows = stamp_grows p r looked in record {
      calls = [];
      ran = refl;
      outrun = prefix_length (front_of p) (front_of r) (front_grows p r looked);
      count = refl;
      first = stamp_of r;
      first_read = visit_reads p r v;
      not_before = grows;
      many = omega arith;
      looked = looked;
    }

    -- others' contents came between, and were read under the turn that found them
    pub read_newer : (h : F) (r q : Pass V V g) (n : ℕ) (new : V) (k : F) → Reading h r n → CalledAt m h (contents_of c (front_of r)) (Ok (Some new)) k → Visited r q → stamp_of r < stamp_of q → Reading k q (n + 1)
    read_newer h r q n new k s called v later =
        let looked = looked_visited r q v in
        let calls = Reading.calls s in
        let firsts : first_stamp_of q ≡ first_stamp_of r = first_stays r q looked in
        let many : Reading.first s + n ≤ stamp_of r = Reading.many s in
        let counted = Reading.count s in
        record {
          calls = calls ++ call_of (front_of r) (Ok (Some new)) ∷ [];
          ran = ran_more m c f calls h (front_of r) (Ok (Some new)) k (Reading.ran s) called;
          outrun = outrun_more (length (front_of p)) calls (front_of r) (front_of q) new (Reading.outrun s) (front_grows r q looked) (omega (arith, later, firsts));
          count = length-append calls (call_of (front_of r) (Ok (Some new)) ∷ []) ∙ ap (λ (i : ℕ). i + 1) counted;
          first = Reading.first s;
          first_read = reads_more p r q (Reading.first s) (Reading.first_read s) looked;
          not_before = Reading.not_before s;
          many = omega (arith, many, later);
          looked = looked_looked p r q (Reading.looked s) looked;
        }

    -- the last call
    pub answered : (h : F) (r q : Pass V V g) (n tries : ℕ) (answer : Answer V) (k : F) → Reading h r n → n < tries → CalledAt m h (contents_of c (front_of r)) answer k → Answered m c f p q tries (front_of r) answer
    answered h r q n tries answer k s left called = record {
      earlier = Reading.calls s;
      after = k;
      ran = ran_more m c f (Reading.calls s) h (front_of r) answer k (Reading.ran s) called;
      outrun = Reading.outrun s;
      few = let count = Reading.count s in omega arith;
    }

    pub committed : (h : F) (r q : Pass V V g) (n tries : ℕ) (new e : V) (k : F) → Reading h r n → n < tries → CalledAt m h (contents_of c (front_of r)) (Ok (Some new)) k → e ≡ new → Committed r q (front_of r) e → CommitsEdit m c f p q tries
    committed h r q n tries new e k s left called is a =
        let whole : Committed p q (front_of r) new = looked_committed p r q (front_of r) new (Reading.looked s) (subst (Committed r q (front_of r)) is a) in
        record {
          before = front_of r;
          new = new;
          answered = answered h r q n tries (Ok (Some new)) k s left called;
          committed = whole;
          added = one_added p q (front_of r) new whole;
        }

    -- the last try was lost
    pub lost_last : (h : F) (r q : Pass V V g) (n tries : ℕ) (new : V) (k : F) → Reading h r n → n + 1 ≡ tries → CalledAt m h (contents_of c (front_of r)) (Ok (Some new)) k → Visited r q → stamp_of r < stamp_of q → LosesEdit m c f p q tries (stamp_of r)
    unfolding answered
    lost_last h r q n tries new k s all called v later =
        let looked = looked_visited r q v in
        let firsts : first_stamp_of r ≡ first_stamp_of p = first_stays p r (Reading.looked s) in
        let many : Reading.first s + n ≤ stamp_of r = Reading.many s in
        record {
          entries = front_of r;
          new = new;
          answered = answered h r q n tries (Ok (Some new)) k s (omega arith) called;
          all_tried = ap (λ (i : ℕ). i + 1) (Reading.count s) ∙ all;
          passed = front_grows r q looked;
          tried_is = ap (λ (i : ℕ). i + length (front_of r)) firsts;
          outrun = later;
          first = Reading.first s;
          first_read = reads_more p r q (Reading.first s) (Reading.first_read s) looked;
          not_before = Reading.not_before s;
          many = omega (arith, many, later, all);
        }

    -- a whole pass made every commit, so nobody outran it
    pub whole_never_loses : (q : Pass V V g) (n tried : ℕ) → passes.IsPassOf c.cell p → passes.IsPassOf c.cell q → LosesEdit m c f p q n tried → Looked p q → IsWhole p → ⊥
    whole_never_loses q n tried own still lost looked whole =
        let counts : length (commits_of q) ≡ length (commits_of p) = ap length (commits_stay p q looked) in
        let firsts : first_stamp_of q ≡ first_stamp_of p = first_stays p q looked in
        let whole_still : IsWhole q = ViewAdvances.weight (Looked.advances looked) ∙ whole in
        let before : first_stamp_of p + length (commits_of p) ≡ stamp_of p = IsEachOnce.count (passes.IsPassOf.knows own whole) in
        let after : first_stamp_of q + length (commits_of q) ≡ stamp_of q = IsEachOnce.count (passes.IsPassOf.knows still whole_still) in
        let not_before = LosesEdit.not_before lost in
        let many : LosesEdit.first lost + n ≤ stamp_of q = LosesEdit.many lost in
        let counted = LosesEdit.all_tried lost in
        omega (arith, counts, firsts, before, after, not_before, many, counted)
