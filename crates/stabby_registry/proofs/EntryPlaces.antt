-- The place of the entry that has a number, and a list of places by number.
use Rattle.std.proofs.Common.{replicate, slice_set, ◌≡◌, ◌≢◌, ℕ, zero, suc, ◌+◌, ◌<◌, ◌≤◌, ◌==◌, List, [], ◌∷◌, length, map, get_or, refl, sym, ◌∙◌, ap, subst, arith, Bool, true, false, if◌then◌else◌, inl, inr, ◌⊎◌}
use Rattle.std.specs.List.{slice_index}
use Rattle.std.proofs.lemmas.List.{get_or-map, get_or-set_same, get_or-set_other, get_or-replicate, length-replicate, length-set}
use Rattle.std.proofs.lemmas.Bool.{cases_lt}
use Rattle.std.proofs.lemmas.Bool.Decides.{nat_tests}
use Rattle.stabby_tables.specs.Tables.{Table}
use Rattle.stabby_tables.specs.Lists.{entry_place}
use Rattle.stabby_registry.specs.Interned.{CanRank}

-- the number of the entry at place i
abbrev pub number_at : List (Table × ℕ) → ℕ → ℕ
number_at es i = slice_index (map (λ (e : Table × ℕ). e.1) es) i

-- either no entry has the number, and its place is the count; or the first that has it is at its place
entry_place_le : (es : List (Table × ℕ)) (n : ℕ) → entry_place es n ≤ length es
entry_place_le [] n = omega arith
entry_place_le (e ∷ es) n = by (e.1 == n) (entry_place_le es n)
  where
    by : (b : Bool) → entry_place es n ≤ length es → (if b then 0 else suc (entry_place es n)) ≤ suc (length es)
    by true h = omega arith
    by false h = omega (arith, h)

entry_at_by : (b : Bool) (e : Table × ℕ) (es : List (Table × ℕ)) (n : ℕ) → (e.1 == n) ≡ b → (entry_place es n < length es → number_at es (entry_place es n) ≡ n)
    → (if b then 0 else suc (entry_place es n)) < suc (length es) → number_at (e ∷ es) (if b then 0 else suc (entry_place es n)) ≡ n
entry_at_by true e es n same rest lt = grind (arith, nat_tests)
entry_at_by false e es n other rest lt = rest (omega (arith, lt))

entry_at : (es : List (Table × ℕ)) (n : ℕ) → entry_place es n < length es → number_at es (entry_place es n) ≡ n
entry_at [] n lt = absurd (omega (arith, lt))
entry_at (e ∷ es) n lt = entry_at_by (e.1 == n) e es n refl (entry_at es n) lt

absent_by : (b : Bool) (e : Table × ℕ) (es : List (Table × ℕ)) (n : ℕ) → (e.1 == n) ≡ b → (entry_place es n ≡ length es → (j : ℕ) → j < length es → number_at es j ≢ n)
    → (if b then 0 else suc (entry_place es n)) ≡ suc (length es) → (j : ℕ) → j < suc (length es) → number_at (e ∷ es) j ≢ n
absent_by true e es n same rest at j lt = absurd (omega (arith, at))
absent_by false e es n other rest at zero lt = grind (arith, nat_tests)
absent_by false e es n other rest at (suc j) lt = rest (omega (arith, at)) j (omega arith)

entry_absent : (es : List (Table × ℕ)) (n : ℕ) → entry_place es n ≡ length es → (j : ℕ) → j < length es → number_at es j ≢ n
entry_absent [] n at j lt = absurd (omega (arith, lt))
entry_absent (e ∷ es) n at j lt = absent_by (e.1 == n) e es n refl (entry_absent es n) at j lt

-- the first i entries have their places under their numbers, and the other numbers have the count
pub record Places (es : List (Table × ℕ)) (i : ℕ) (places : List ℕ) : Type 0 where
  pub long : length places ≡ length es
  pub here : (j : ℕ) → j < i → slice_index places (number_at es j) ≡ j
  pub elsewhere : (n : ℕ) → n < length es → ((j : ℕ) → j < i → number_at es j ≢ n) → slice_index places n ≡ length es

-- where all entries were gone over, each number has the place of its entry
pub places_are : (es : List (Table × ℕ)) (places : List ℕ) → Places es (length es) places → (n : ℕ) → n < length es → slice_index places n ≡ entry_place es n
places_are es places p n lt = by (cases_lt (entry_place es n) (length es))
  where
    by : (entry_place es n < length es) ⊎ (length es ≤ entry_place es n) → slice_index places n ≡ entry_place es n
    by (inl found) = ap (slice_index places) (sym (entry_at es n found)) ∙ p.here (entry_place es n) found
    by (inr none) = let at : entry_place es n ≡ length es = omega (arith, none, entry_place_le es n) in p.elsewhere n lt (entry_absent es n at) ∙ sym at

pub begun : (es : List (Table × ℕ)) (places : List ℕ) → places ≡ replicate (length es) (length es) → Places es 0 places
begun es places is = record {
  long = ap length is ∙ length-replicate (length es) (length es);
  here = λ j lt. absurd (omega (arith, lt));
  elsewhere = λ n lt none. ap (λ l. slice_index l n) is ∙ get_or-replicate (length es) n (length es) 0 lt;
}

pub number_read : (es : List (Table × ℕ)) (i : ℕ) (e : Table × ℕ) → i < length es → e ≡ get_or es i e → number_at es i ≡ e.1
number_read es i e lt is = get_or-map (λ (x : Table × ℕ). x.1) es i e 0 lt ∙ ap (λ (x : Table × ℕ). x.1) (sym is)

-- the place of one entry more
pub stepped : (es : List (Table × ℕ)) (i n : ℕ) (places : List ℕ) → CanRank es [] → i < length es → number_at es i ≡ n → Places es i places → Places es (i + 1) (slice_set places n i)
stepped es i n places can lt is p =
    let low : n < length es = subst (λ m. m < length es) is (can.below i lt) in
    record {
      long = length-set places n i ∙ p.long;
      here = λ j below. here_by j below (cases_lt j i);
      elsewhere = λ m in_range none.
          let other : m ≢ n = λ same. none i (omega arith) (is ∙ sym same) in
          get_or-set_other places n m i 0 other ∙ p.elsewhere m in_range (λ j below. none j (omega (arith, below)));
    }
  where
    here_by : (j : ℕ) → j < i + 1 → (j < i) ⊎ (i ≤ j) → slice_index (slice_set places n i) (number_at es j) ≡ j
    here_by j below (inl earlier) =
        let other : number_at es j ≢ n = λ same. can.once j i earlier lt (same ∙ sym is) in
        get_or-set_other places n (number_at es j) i 0 other ∙ p.here j earlier
    here_by j below (inr last) =
        let same : j ≡ i = omega (arith, below, last) in
        let there : number_at es j ≡ n = ap (number_at es) same ∙ is in
        ap (slice_index (slice_set places n i)) there ∙ get_or-set_same places n i 0 (subst (λ k. n < k) (sym p.long) (subst (λ m. m < length es) is (can.below i lt))) ∙ sym same
