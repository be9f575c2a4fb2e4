-- The members of a list in order: strictly increasing, and the only such list.
use Rattle.std.proofs.Common.{◌≡◌, ℕ, zero, suc, ◌+◌, ◌<◌, ◌≤◌, List, [], ◌∷◌, ◌++◌, length, refl, sym, ◌∙◌, ap, subst, arith, Bool, true, false, ◌||◌, if◌then◌else◌, cond, ◌⊎◌, inl, inr}
use mathlib.Core.Bool.{false≢true}
use Rattle.std.specs.List.{fold, AllByRecursion, count_by}
use Rattle.std.specs.Cmp.Lexicographic.{slice_cmp}
use Rattle.std.specs.Cmp.{IsTotalOrder}
use Rattle.std.specs.Ordering.{nat_cmp, is_eq, is_lt}
use Rattle.std.specs.declared.cmp.Ordering.{Ordering}
use Rattle.std.specs.declared.cmp.Ordering.TheVariants.{Less, Equal, Greater}
use Rattle.std.proofs.lemmas.Cmp.{nat_list_cmp_total}
use Rattle.std.proofs.lemmas.Bool.Decides.{nat_tests}
use Rattle.std.proofs.lemmas.Grind.{common_steps}
use Rattle.stabby_tables.specs.Tables.{Table, is_before, is_same}
use Rattle.stabby_tables.specs.Lists.{has, with_table, distinct, place, placed, increasing, rank, AllAfter, IsRising}
use Rattle.stabby_tables.proofs.Order.{before_is_less, same_is_equal}
use Rattle.stabby_tables.proofs.Growing.{same_itself, equal_from_same, same_back, other_than_member, has_placed, has_increasing, has_with_table}

-- the order of two tables, by its two tests
less_by : (o : Ordering) → is_lt o ≡ true → o ≡ Less
less_by Less h = refl
less_by Equal h = absurd (false≢true h)
less_by Greater h = absurd (false≢true h)

less_from : (a b : Table) → is_before a b ≡ true → slice_cmp nat_cmp a b ≡ Less
less_from a b h = less_by (slice_cmp nat_cmp a b) (before_is_less a b ∙ h)

pub before_trans : (a b c : Table) → is_before a b ≡ true → is_before b c ≡ true → is_before a c ≡ true
before_trans a b c p q = sym (before_is_less a c) ∙ ap is_lt (nat_list_cmp_total.trans a b c (less_from a b p) (less_from b c q))

pub before_itself : (a : Table) → is_before a a ≡ false
before_itself [] = refl
before_itself (x ∷ a) = grind (arith, nat_tests, before_itself a)

pub before_or_after : (a b : Table) → is_before a b ≡ false → is_same a b ≡ false → is_before b a ≡ true
before_or_after [] [] p q = absurd (false≢true (sym q))
before_or_after [] (y ∷ b) p q = absurd (false≢true (sym p))
before_or_after (x ∷ a) [] p q = refl
before_or_after (x ∷ a) (y ∷ b) p q = grind (arith, nat_tests, before_or_after a b)

pub before_not_same : (a b : Table) → is_before a b ≡ true → is_same a b ≡ false
before_not_same a b h = by (is_same a b) refl
  where
    by : (s : Bool) → is_same a b ≡ s → s ≡ false
    by true same = absurd (false≢true (sym (before_itself b) ∙ subst (λ v. is_before v b ≡ true) (equal_from_same a b same) h))
    by false other = refl

pub before_one_way : (a b : Table) → is_before a b ≡ true → is_before b a ≡ false
before_one_way a b h = by (is_before b a) refl
  where
    by : (s : Bool) → is_before b a ≡ s → s ≡ false
    by true back = absurd (false≢true (sym (before_itself a) ∙ before_trans a b a h back))
    by false other = refl

after_all : (a b : Table) (s : List Table) → is_before a b ≡ true → AllAfter b s → AllAfter a s
after_all a b [] lt all = tt
after_all a b (c ∷ s) lt all = (before_trans a b c lt all.0, after_all a b s lt all.1)

all_after_by : (b e : Bool) (v t u : Table) (s : List Table) → AllAfter v (u ∷ s) → is_before v t ≡ true → AllAfter v (placed t s) → AllAfter v (if b then u ∷ placed t s else (if e then u ∷ s else t ∷ u ∷ s))
all_after_by true e v t u s all lt rest = (all.0, rest)
all_after_by false true v t u s all lt rest = all
all_after_by false false v t u s all lt rest = (lt, all)

all_after_placed : (v t : Table) (s : List Table) → AllAfter v s → is_before v t ≡ true → AllAfter v (placed t s)
all_after_placed v t [] all lt = (lt, tt)
all_after_placed v t (u ∷ s) all lt = all_after_by (is_before u t) (is_same u t) v t u s all lt (all_after_placed v t s all.1 lt)

pub has_none_after : (v : Table) (s : List Table) → AllAfter v s → has s v ≡ false
has_none_after v [] all = refl
has_none_after v (u ∷ s) all = rw (same_back u v, before_not_same v u all.0) (has_none_after v s all.1)

rising_by : (b e : Bool) (t u : Table) (s : List Table) → is_before u t ≡ b → is_same u t ≡ e → IsRising (u ∷ s) → IsRising (placed t s) → IsRising (if b then u ∷ placed t s else (if e then u ∷ s else t ∷ u ∷ s))
rising_by true e t u s before same up rest = (all_after_placed u t s up.0 before, rest)
rising_by false true t u s before same up rest = up
rising_by false false t u s before same up rest =
    let lt = before_or_after u t before same in
    ((lt, after_all t u s lt up.0), up)

pub rising_placed : (t : Table) (s : List Table) → IsRising s → IsRising (placed t s)
rising_placed t [] up = (tt, tt)
rising_placed t (u ∷ s) up = rising_by (is_before u t) (is_same u t) t u s refl refl up (rising_placed t s up.1)

rising_fold : (s f : List Table) → IsRising s → IsRising (fold (λ sorted t. placed t sorted) s f)
rising_fold s [] up = up
rising_fold s (t ∷ f) up = rising_fold (placed t s) f (rising_placed t s up)

pub rising_increasing : (f : List Table) → IsRising (increasing f)
rising_increasing f = rising_fold [] f tt

-- ---- the only rising list with these members
member_by : (b : Bool) (v u t : Table) (s : List Table) → is_same u t ≡ b → is_before v u ≡ true → (has s t ≡ true → is_before v t ≡ true) → (if b then true else has s t) ≡ true → is_before v t ≡ true
member_by true v u t s same first rest m = subst (λ w. is_before v w ≡ true) (equal_from_same u t same) first
member_by false v u t s other first rest m = rest m

member_after : (v : Table) (s : List Table) (t : Table) → AllAfter v s → has s t ≡ true → is_before v t ≡ true
member_after v [] t all member = absurd (false≢true member)
member_after v (u ∷ s) t all member = member_by (is_same u t) v u t s refl all.0 (member_after v s t all.1) member

-- the first elements of two rising lists with the same members
first_same_by : (b : Bool) (u v : Table) (s r : List Table) → is_same u v ≡ b → IsRising (u ∷ s) → IsRising (v ∷ r) → ((t : Table) → has (u ∷ s) t ≡ has (v ∷ r) t) → u ≡ v
first_same_by true u v s r same up down members = equal_from_same u v same
first_same_by false u v s r other up down members =
    let back : is_same v u ≡ false = sym (same_back u v) ∙ other in
    let u_here : has (u ∷ s) u ≡ true = rw (same_itself u) refl in
    let v_here : has (v ∷ r) v ≡ true = rw (same_itself v) refl in
    let in_r : has r u ≡ true = rw back at (sym (members u) ∙ u_here) in
    let in_s : has s v ≡ true = rw other at (members v ∙ v_here) in
    absurd (false≢true (sym (before_one_way u v (member_after u s v up.0 in_s)) ∙ member_after v r u down.0 in_r))

tail_by : (b : Bool) (u t : Table) (s r : List Table) → is_same u t ≡ b → AllAfter u s → AllAfter u r → (if b then true else has s t) ≡ (if b then true else has r t) → has s t ≡ has r t
tail_by true u t s r same all each members = subst (λ w. has s w ≡ has r w) (equal_from_same u t same) (has_none_after u s all ∙ sym (has_none_after u r each))
tail_by false u t s r other all each members = members

pub rising_unique : (s r : List Table) → IsRising s → IsRising r → ((t : Table) → has s t ≡ has r t) → s ≡ r
rising_unique [] [] up down members = refl
rising_unique [] (v ∷ r) up down members = absurd (false≢true (members v ∙ rw (same_itself v) refl))
rising_unique (u ∷ s) [] up down members = absurd (false≢true (sym (members u) ∙ rw (same_itself u) refl))
rising_unique (u ∷ s) (v ∷ r) up down members =
    let first : u ≡ v = first_same_by (is_same u v) u v s r refl up down members in
    let down' : IsRising (u ∷ r) = subst (λ w. IsRising (w ∷ r)) (sym first) down in
    let members' : (t : Table) → has (u ∷ s) t ≡ has (u ∷ r) t = subst (λ w. (t : Table) → has (u ∷ s) t ≡ has (w ∷ r) t) (sym first) members in
    ap (λ l. u ∷ l) (rising_unique s r up.1 down'.1 (λ t. tail_by (is_same u t) u t s r refl up.0 down'.0 (members' t))) ∙ ap (λ w. w ∷ r) first

pub increasing_unique : (f g : List Table) → ((t : Table) → has f t ≡ has g t) → increasing f ≡ increasing g
increasing_unique f g members = rising_unique (increasing f) (increasing g) (rising_increasing f) (rising_increasing g) (λ t. has_increasing f t ∙ members t ∙ sym (has_increasing g t))

-- ---- the place of a member is how many are less
none_less : (t : Table) (s : List Table) → AllAfter t s → rank s t ≡ 0
none_less t [] all = refl
none_less t (u ∷ s) all = rw (before_one_way t u all.0) (none_less t s all.1)

place_by : (b : Bool) (u t : Table) (s : List Table) → is_same u t ≡ b → IsRising (u ∷ s) → (has s t ≡ true → place s t ≡ rank s t) → (if b then true else has s t) ≡ true
    → (if b then 0 else suc (place s t)) ≡ (if is_before u t then suc (rank s t) else rank s t)
place_by true u t s same up rest member =
    let one : u ≡ t = equal_from_same u t same in
    let not_less : is_before u t ≡ false = subst (λ w. is_before u w ≡ false) one (before_itself u) in
    rw not_less (sym (none_less t s (subst (λ w. AllAfter w s) one up.0)))
place_by false u t s other up rest member = rw (member_after u s t up.0 member) (ap suc (rest member))

pub place_is_rank : (s : List Table) (t : Table) → IsRising s → has s t ≡ true → place s t ≡ rank s t
place_is_rank [] t up member = absurd (false≢true member)
place_is_rank (u ∷ s) t up member = place_by (is_same u t) u t s refl up (place_is_rank s t up.1) member

-- ---- as many are less among the distinct members as among the ordered ones
rank_push : (f : List Table) (t v : Table) → rank (f ++ t ∷ []) v ≡ (if is_before t v then suc (rank f v) else rank f v)
rank_push [] t v = refl
rank_push (u ∷ f) t v = rw (rank_push f t v) (elim (is_before u v) as (λ b. (if b then suc (if is_before t v then suc (rank f v) else rank f v) else (if is_before t v then suc (rank f v) else rank f v)) ≡ (if is_before t v then suc (if b then suc (rank f v) else rank f v) else (if b then suc (rank f v) else rank f v))) [
  | true ↦ elim (is_before t v) as (λ b. suc (if b then suc (rank f v) else rank f v) ≡ (if b then suc (suc (rank f v)) else suc (rank f v))) [ true ↦ refl | false ↦ refl ]
  | false ↦ refl
])

rank_placed_by : (b e : Bool) (s : List Table) (t u v : Table) → is_same u t ≡ e → has (u ∷ s) t ≡ false → rank (placed t s) v ≡ (if is_before t v then suc (rank s v) else rank s v)
    → rank (if b then u ∷ placed t s else (if e then u ∷ s else t ∷ u ∷ s)) v ≡ (if is_before t v then suc (rank (u ∷ s) v) else rank (u ∷ s) v)
rank_placed_by true e s t u v same absent rest = rw rest (elim (is_before u v) as (λ b. (if b then suc (if is_before t v then suc (rank s v) else rank s v) else (if is_before t v then suc (rank s v) else rank s v)) ≡ (if is_before t v then suc (if b then suc (rank s v) else rank s v) else (if b then suc (rank s v) else rank s v))) [
  | true ↦ elim (is_before t v) as (λ b. suc (if b then suc (rank s v) else rank s v) ≡ (if b then suc (suc (rank s v)) else suc (rank s v))) [ true ↦ refl | false ↦ refl ]
  | false ↦ refl
])
rank_placed_by false true s t u v same absent rest = absurd (false≢true (sym absent ∙ rw same refl))
rank_placed_by false false s t u v same absent rest = refl

absent_tail : (u t : Table) (s : List Table) → has (u ∷ s) t ≡ false → has s t ≡ false
absent_tail u t s h = grind (arith, h)

rank_placed : (s : List Table) (t v : Table) → has s t ≡ false → rank (placed t s) v ≡ (if is_before t v then suc (rank s v) else rank s v)
rank_placed [] t v absent = refl
rank_placed (u ∷ s) t v absent = rank_placed_by (is_before u t) (is_same u t) s t u v refl absent (rank_placed s t v (absent_tail u t s absent))

-- a table that stands there isn't put in again
pub placed_there : (s : List Table) (t : Table) → IsRising s → has s t ≡ true → placed t s ≡ s
placed_there s t up member = rising_unique (placed t s) s (rising_placed t s up) up (λ u. has_placed s t u ∙ there_by (is_same t u) u refl)
  where
    there_by : (b : Bool) (u : Table) → is_same t u ≡ b → (b || has s u) ≡ has s u
    there_by true u same = sym (subst (λ w. has s w ≡ true) (equal_from_same t u same) member)
    there_by false u other = refl

ranks_by : (b : Bool) (ds s ts : List Table) (t v : Table) → has ds t ≡ b → IsRising s → ((u : Table) → has ds u ≡ has s u) → rank ds v ≡ rank s v → rank (if b then ds else ds ++ t ∷ []) v ≡ rank (placed t s) v
ranks_by true ds s ts t v member up members same = rw (placed_there s t up (sym (members t) ∙ member)) same
ranks_by false ds s ts t v absent up members same = rw (rank_push ds t v, rank_placed s t v (sym (members t) ∙ absent), same) refl

ranks_fold : (ds s ts : List Table) (v : Table) → IsRising s → ((u : Table) → has ds u ≡ has s u) → rank ds v ≡ rank s v → rank (fold with_table ds ts) v ≡ rank (fold (λ sorted t. placed t sorted) s ts) v
ranks_fold ds s [] v up members same = same
ranks_fold ds s (t ∷ ts) v up members same = ranks_fold (with_table ds t) (placed t s) ts v (rising_placed t s up)
    (λ u. has_with_table ds t u ∙ or_back (has ds u) (is_same t u) ∙ ap (λ b. is_same t u || b) (members u) ∙ sym (has_placed s t u))
    (ranks_by (has ds t) ds s ts t v refl up members same)
  where
    or_back : (a b : Bool) → (a || b) ≡ (b || a)
    or_back true true = refl
    or_back true false = refl
    or_back false true = refl
    or_back false false = refl

pub rank_distinct : (ts : List Table) (v : Table) → rank (distinct ts) v ≡ rank (increasing ts) v
rank_distinct ts v = ranks_fold [] [] ts v tt (λ u. refl) refl

-- ---- the order is total
pub before_total : (a b : Table) → (is_before a b ≡ true) ⊎ ((a ≡ b) ⊎ (is_before b a ≡ true))
before_total a b = by (is_before a b) (is_same a b) refl refl
  where
    by : (l s : Bool) → is_before a b ≡ l → is_same a b ≡ s → (is_before a b ≡ true) ⊎ ((a ≡ b) ⊎ (is_before b a ≡ true))
    by true s p q = inl p
    by false true p q = inr (inl (equal_from_same a b q))
    by false false p q = inr (inr (before_or_after a b p q))
