-- How maps of blocks change, one change after another.
use Rattle.std.proofs.Common.{◌≡◌, ℕ, Bool, true, false, Option, Some, None, ◌==◌, if◌then◌else◌, refl, ap, ◌∙◌}
use Rattle.std.specs.Cmp.{unsigned_Decides}
use Rattle.stabby_block.specs.Blocks.{Held, Blocks, ChangesAt, MovesTo}

same_number : (n : ℕ) → (n == n) ≡ true
same_number n = (unsigned_Decides n n).1 refl

chosen : {X : Type 0} (b : Bool) (x y : X) → b ≡ true → (if b then x else y) ≡ x
chosen b x y is = ap (λ c. if c then x else y) is

twice : {X : Type 0} (b : Bool) (k h o : X) → (if b then k else (if b then h else o)) ≡ (if b then k else o)
twice true k h o = refl
twice false k h o = refl

-- what stands at the changed place
pub changed_at : (old new : Blocks) (n : ℕ) (h : Option Held) → ChangesAt old new n h → new n ≡ h
changed_at old new n h change = change n ∙ chosen (n == n) h (old n) (same_number n)

pub changed_twice : (old mid new : Blocks) (n : ℕ) (h k : Option Held) → ChangesAt old mid n h → ChangesAt mid new n k → ChangesAt old new n k
changed_twice old mid new n h k first second q =
    second q ∙ ap (λ o. if q == n then k else o) (first q) ∙ twice (q == n) k h (old q)

pub moved_at : (old new : Blocks) (n m : ℕ) (h : Held) → MovesTo old new n m h → new m ≡ Some h
moved_at old new n m h move = move m ∙ chosen (m == m) (Some h) _ (same_number m)

pub moved_then_changed : (old mid new : Blocks) (n m : ℕ) (h k : Held) → MovesTo old mid n m h → ChangesAt mid new m (Some k) → MovesTo old new n m k
moved_then_changed old mid new n m h k move change q =
    change q ∙ ap (λ o. if q == m then Some k else o) (move q) ∙ twice (q == m) (Some k) (Some h) (if q == n then None else old q)
