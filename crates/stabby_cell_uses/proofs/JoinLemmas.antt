-- Many passes joined one by one, from the last to the first.
use Rattle.std.proofs.Common.{◌≡◌, zero, suc, ◌+◌, List, [], ◌∷◌, ◌++◌, sym, refl, ap, ◌∙◌, subst, arith, append_assoc, append-nil}
use Rattle.std.specs.Prelude.{All, sum_by, flat_map}
use Rattle.std.proofs.lemmas.List.Sums.{sum_by-append}
use mathlib.Core.List.{IsPrefix}
use Rattle.stabby_cell.specs.declared.chronicle.Chronicle.{Ghosts}
use Rattle.stabby_cell.specs.declared.cell.TurnCell.{TurnCell}
use Rattle.stabby_cell.specs.declared.pass.Pass.{Pass}
use Rattle.stabby_cell.specs.Passes.{IsPassOf, Joined, front_of, weight_of, commits_of}
use Rattle.stabby_cell.proofs.RecordLemmas.{prefix_trans, prefix_same}

module _ {X : Type 0} (P : X → Type 0) where
  all_cons : (x : X) (xs : List X) → P x → All P xs → All P (x ∷ xs)
  all_cons x xs p h zero d below = p
  all_cons x xs p h (suc k) d below = h k d (omega arith)

  all_first : (xs ys : List X) → All P (xs ++ ys) → All P xs
  all_first [] ys h k d below = absurd (omega arith)
  all_first (x ∷ xs) ys h zero d below = h zero d (omega arith)
  all_first (x ∷ xs) ys h (suc k) d below = all_first xs ys (λ j e b. h (suc j) e (omega arith)) k d (omega arith)

  all_last : (xs : List X) (y : X) → All P (xs ++ y ∷ []) → P y
  all_last [] y h = h zero y (omega arith)
  all_last (x ∷ xs) y h = all_last xs y (λ j e b. h (suc j) e (omega arith))

  all_none : All P []
  all_none k d below = absurd (omega arith)

module _ {V E : Type 0} {g : Ghosts V E} where
  -- `rest` is left of the parts, and the others went into `now`, with the last pass
  pub record JoinedSoFar (cell : TurnCell V E) (parts rest : List (Pass V E g)) (last now : Pass V E g) : Type 0 where
    pub done : List (Pass V E g)
    pub split : parts ≡ rest ++ done
    pub own : All (IsPassOf cell) rest
    pub pass : IsPassOf cell now
    pub weight : weight_of now ≡ sum_by weight_of done + weight_of last
    pub commits : commits_of now ≡ flat_map commits_of done ++ commits_of last
    pub fronts : All (λ part. IsPrefix (front_of part) (front_of now)) done
    pub last_front : IsPrefix (front_of last) (front_of now)

  pub joined_none : (cell : TurnCell V E) (parts : List (Pass V E g)) (last : Pass V E g) → All (IsPassOf cell) parts → IsPassOf cell last → JoinedSoFar cell parts parts last last
  joined_none cell parts last own pass = record { done = []; split = sym (append-nil parts); own = own; pass = pass; weight = omega arith; commits = refl; fronts = all_none (λ part. IsPrefix (front_of part) (front_of last)); last_front = prefix_same (front_of last) }

  pub part_is_own : (cell : TurnCell V E) (parts rest left : List (Pass V E g)) (last now part : Pass V E g) → JoinedSoFar cell parts rest last now → rest ≡ left ++ part ∷ [] → IsPassOf cell part
  part_is_own cell parts rest left last now part j is = all_last (IsPassOf cell) left part (subst (All (IsPassOf cell)) is (JoinedSoFar.own j))

  pub joined_more : (cell : TurnCell V E) (parts rest left : List (Pass V E g)) (last now part both : Pass V E g) → JoinedSoFar cell parts rest last now → rest ≡ left ++ part ∷ []
      → IsPassOf cell both → Joined part now both → IsPrefix (front_of part) (front_of both) → IsPrefix (front_of now) (front_of both) → JoinedSoFar cell parts left last both
  joined_more cell parts rest left last now part both j is pass put first second = record {
    done = part ∷ JoinedSoFar.done j;
    split = JoinedSoFar.split j ∙ (ap (λ l. l ++ JoinedSoFar.done j) is ∙ append_assoc left (part ∷ []) (JoinedSoFar.done j));
    own = all_first (IsPassOf cell) left (part ∷ []) (subst (All (IsPassOf cell)) is (JoinedSoFar.own j));
    pass = pass;
    weight = let a = Joined.weight put in let b = JoinedSoFar.weight j in let c = sum_by-append weight_of (part ∷ []) (JoinedSoFar.done j) in omega arith;
    commits = Joined.commits put ∙ (ap (λ l. commits_of part ++ l) (JoinedSoFar.commits j) ∙ sym (append_assoc (commits_of part) (flat_map commits_of (JoinedSoFar.done j)) (commits_of last)));
    fronts = all_cons (λ x. IsPrefix (front_of x) (front_of both)) part (JoinedSoFar.done j) first (λ k d below. prefix_trans _ _ _ (JoinedSoFar.fronts j k d below) second);
    last_front = prefix_trans _ _ _ (JoinedSoFar.last_front j) second;
  }

  pub joined_fronts : (cell : TurnCell V E) (parts rest : List (Pass V E g)) (last now : Pass V E g) → JoinedSoFar cell parts rest last now → rest ≡ [] → All (λ part. IsPrefix (front_of part) (front_of now)) parts
  joined_fronts cell parts rest last now j is = subst (All (λ part. IsPrefix (front_of part) (front_of now))) (sym (JoinedSoFar.split j ∙ ap (λ l. l ++ JoinedSoFar.done j) is)) (JoinedSoFar.fronts j)
