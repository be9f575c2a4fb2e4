-- Lines cut at their first space.
use Rattle.std.proofs.Common.{◌≡◌, ◌≢◌, ℕ, ◌+◌, ◌<◌, ◌≤◌, List, [], ◌∷◌, ◌++◌, length, take, drop, refl, sym, ◌∙◌, ap, arith, Bool, true, false, ◌==◌, cond, not, Option, Some, None, suc}
use Rattle.std.specs.List.{AllByRecursion}
use Rattle.std.specs.Char.{digit_value}
use Rattle.std.specs.Str.Parse.{AllDigits}
use Rattle.std.proofs.lemmas.Bool.Decides.{nat_tests}
use Rattle.stabby_tables.specs.Lines.{SpellsWord}
use Rattle.stabby_tables.proofs.Cuts.{before}
use Rattle.stabby_lines.specs.Pieces.{followed}

abbrev pub NoSpace : List ℕ → Type 0
NoSpace piece = AllByRecursion (λ b. b ≢ 32) piece

-- ---- where the first space stands
is_space : (b : ℕ) → (b == 32) ≡ true → b ≡ 32
is_space b e = grind (arith, nat_tests)

no_space : (b : ℕ) → (b == 32) ≡ false → b ≢ 32
no_space b e = grind (arith, nat_tests)

record CutAt (line : List ℕ) (at : ℕ) : Type 0 where
  pub whole : line ≡ take at line ++ 32 ∷ drop (at + 1) line
  pub none : NoSpace (take at line)

cut_by : (t : Bool) (b : ℕ) (line : List ℕ) → (b == 32) ≡ t → cond (not t) (1 + before 32 line) 0 < length (b ∷ line) → (before 32 line < length line → CutAt line (before 32 line)) → CutAt (b ∷ line) (cond (not t) (1 + before 32 line) 0)
cut_by true b line is lt rest = record { whole = ap (λ (x : ℕ). x ∷ line) (is_space b is); none = tt }
cut_by false b line is lt rest =
    let r = rest (omega (arith, lt)) in
    let one : 1 + before 32 line ≡ suc (before 32 line) = omega arith in
    let two : suc (before 32 line) + 1 ≡ suc (before 32 line + 1) = omega arith in
    rw one (record { whole = rw two (ap (λ (l : List ℕ). b ∷ l) (CutAt.whole r)); none = (no_space b is, CutAt.none r) })

cut_at : (line : List ℕ) → before 32 line < length line → CutAt line (before 32 line)
cut_at [] lt = absurd (omega arith)
cut_at (b ∷ line) lt = cut_by (b == 32) b line refl lt (cut_at line)

pub cut_whole : (line : List ℕ) (at : ℕ) → at ≡ before 32 line → before 32 line < length line → line ≡ take at line ++ 32 ∷ drop (at + 1) line
cut_whole line at is lt = rw is (CutAt.whole (cut_at line lt))

pub cut_none : (line : List ℕ) (at : ℕ) → at ≡ before 32 line → before 32 line < length line → NoSpace (take at line)
cut_none line at is lt = rw is (CutAt.none (cut_at line lt))

nowhere_by : (t : Bool) (b : ℕ) (line : List ℕ) → (b == 32) ≡ t → length (b ∷ line) ≤ cond (not t) (1 + before 32 line) 0 → (length line ≤ before 32 line → NoSpace line) → NoSpace (b ∷ line)
nowhere_by true b line is le rest = absurd (omega (arith, le))
nowhere_by false b line is le rest = (no_space b is, rest (omega (arith, le)))

pub nowhere : (line : List ℕ) → length line ≤ before 32 line → NoSpace line
nowhere [] le = tt
nowhere (b ∷ line) le = nowhere_by (b == 32) b line refl le (nowhere line)

-- ---- a line is cut in one way
head_same : (x y : ℕ) (xs ys : List ℕ) → x ∷ xs ≡ y ∷ ys → x ≡ y
head_same x y xs ys e = cc

tail_same : (x y : ℕ) (xs ys : List ℕ) → x ∷ xs ≡ y ∷ ys → xs ≡ ys
tail_same x y xs ys e = cc

never_empty : (x : ℕ) (xs : List ℕ) → [] ≡ x ∷ xs → ⊥
never_empty x xs e = cc

pub record SameCut (p q : List ℕ) (r s : Option (List ℕ)) : Type 0 where
  pub piece : p ≡ q
  pub rest : r ≡ s

more_same : (x y : ℕ) (p q : List ℕ) (r s : Option (List ℕ)) → x ≡ y → SameCut p q r s → SameCut (x ∷ p) (y ∷ q) r s
more_same x y p q r s e more = record { piece = ap (λ (z : ℕ). z ∷ p) e ∙ ap (λ (l : List ℕ). y ∷ l) (SameCut.piece more); rest = SameCut.rest more }

pub cut_same : (p q : List ℕ) (r s : Option (List ℕ)) → NoSpace p → NoSpace q → followed p r ≡ followed q s → SameCut p q r s
cut_same [] [] None None a b e = record { piece = refl; rest = refl }
cut_same [] [] None (Some s) a b e = absurd (never_empty 32 s e)
cut_same [] [] (Some r) None a b e = absurd (never_empty 32 r (sym e))
cut_same [] [] (Some r) (Some s) a b e = record { piece = refl; rest = ap Some (tail_same 32 32 r s e) }
cut_same [] (y ∷ q) None None a b e = absurd (never_empty y q e)
cut_same [] (y ∷ q) None (Some s) a b e = absurd (never_empty y (q ++ 32 ∷ s) e)
cut_same [] (y ∷ q) (Some r) None a b e = absurd (b.0 (sym (head_same 32 y r q e)))
cut_same [] (y ∷ q) (Some r) (Some s) a b e = absurd (b.0 (sym (head_same 32 y r (q ++ 32 ∷ s) e)))
cut_same (x ∷ p) [] None None a b e = absurd (never_empty x p (sym e))
cut_same (x ∷ p) [] (Some r) None a b e = absurd (never_empty x (p ++ 32 ∷ r) (sym e))
cut_same (x ∷ p) [] None (Some s) a b e = absurd (a.0 (head_same x 32 p s e))
cut_same (x ∷ p) [] (Some r) (Some s) a b e = absurd (a.0 (head_same x 32 (p ++ 32 ∷ r) s e))
cut_same (x ∷ p) (y ∷ q) None None a b e = more_same x y p q None None (head_same x y p q e) (cut_same p q None None a.1 b.1 (tail_same x y p q e))
cut_same (x ∷ p) (y ∷ q) None (Some s) a b e = more_same x y p q None (Some s) (head_same x y p (q ++ 32 ∷ s) e) (cut_same p q None (Some s) a.1 b.1 (tail_same x y p (q ++ 32 ∷ s) e))
cut_same (x ∷ p) (y ∷ q) (Some r) None a b e = more_same x y p q (Some r) None (head_same x y (p ++ 32 ∷ r) q e) (cut_same p q (Some r) None a.1 b.1 (tail_same x y (p ++ 32 ∷ r) q e))
cut_same (x ∷ p) (y ∷ q) (Some r) (Some s) a b e = more_same x y p q (Some r) (Some s) (head_same x y (p ++ 32 ∷ r) (q ++ 32 ∷ s) e) (cut_same p q (Some r) (Some s) a.1 b.1 (tail_same x y (p ++ 32 ∷ r) (q ++ 32 ∷ s) e))

-- ---- digits have no space
digit_no_space : (b : ℕ) → digit_value b < 10 → b ≢ 32
digit_no_space b low e = absurd (omega (arith, rw e at low))

pub digits_no_space : (run : List ℕ) → AllDigits 10 run → NoSpace run
digits_no_space [] all = tt
digits_no_space (b ∷ run) all = (digit_no_space b all.0, digits_no_space run all.1)

pub spelled_no_space : (run : List ℕ) (w : ℕ) → SpellsWord run w → NoSpace run
spelled_no_space run w s = digits_no_space run s.digits.1

pub other : (n : ℕ) → (n == 32) ≡ false → n ≢ 32
other n e = no_space n e
