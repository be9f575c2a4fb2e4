-- The spans of words up to a place.
use Rattle.std.proofs.Common.{◌≡◌, ◌↔◌, ◌⊎◌, ◌≤◌, ◌<◌, ◌-◌, ℕ, suc, List, [], ◌∷◌, ◌++◌, length, Bool, true, false, slice_index, get_or, subst, inl, inr, ⊎_elim, arith}
use Rattle.std.specs.List.{Contains}
use Rattle.std.proofs.lemmas.Bool.{cases_lt}
use Rattle.std.proofs.lemmas.List.{length_push}
use Rattle.std.proofs.lemmas.List.Elements.{Contains-append_left, Contains-push, Contains-push_cases, Contains-get_or}
use Rattle.std.proofs.lemmas.List.Quantifiers.{all_pairs_push}
use Rattle.stabby_symbol.specs.declared.words.Span.{Span}
use Rattle.stabby_symbol.specs.Words.{is_word_byte, IsWordSpan, IsRising, AreWordSpans}

-- the spans of the words that end at the place or before it; no word goes on over it
pub record AreSpansBefore (source : List ℕ) (at : ℕ) (spans : List Span) : Type 0 where
  pub within : at ≤ length source
  pub rising : IsRising spans
  pub exact : (span : Span) → Contains spans span ↔ (IsWordSpan source span × (span.to ≤ at))
  pub between : (at ≡ 0) ⊎ (at < length source → is_word_byte (slice_index source at) ≡ false)
  pub few : length spans ≤ at

-- the byte at i is one of words, and isn't
both : (b : Bool) → b ≡ true → b ≡ false → ⊥
both b t f = absurd cc

-- a word that ends behind the place begins there or behind it
starts_later : (source : List ℕ) (at : ℕ) (spans : List Span) → AreSpansBefore source at spans → (s : Span) → IsWordSpan source s → at < s.to → at ≤ s.from
starts_later source at spans so s w p = ⊎_elim (λ z. omega arith) (λ f. by (cases_lt s.from at) f) so.between
  where
    by : (s.from < at) ⊎ (at ≤ s.from) → (at < length source → is_word_byte (slice_index source at) ≡ false) → at ≤ s.from
    by (inl lt) f = let within = w.within in absurd (both (is_word_byte (slice_index source at)) (w.inside at (omega arith) p) (f (omega arith)))
    by (inr le) f = le

module _ (source : List ℕ) (at from to : ℕ) (spans : List Span) (so : AreSpansBefore source at spans) (low : at ≤ from) (some : from < to)
    (end : to ≤ length source) (before : (i : ℕ) → at ≤ i → i < from → is_word_byte (slice_index source i) ≡ false)
    (inside : (i : ℕ) → from ≤ i → i < to → is_word_byte (slice_index source i) ≡ true)
    (here : to < length source → is_word_byte (slice_index source to) ≡ false) where
  abbrev pub new : Span
  new = record { from = from; to = to }

  begins : (i : ℕ) → suc i ≡ from → is_word_byte (slice_index source i) ≡ false
  begins i e = by (cases_lt i at)
    where
      by : (i < at) ⊎ (at ≤ i) → is_word_byte (slice_index source i) ≡ false
      by (inl lt) =
          let same : at ≡ from = omega arith in
          ⊎_elim (λ z. absurd (omega arith)) (λ f. absurd (both (is_word_byte (slice_index source at)) (inside at (omega arith) (omega arith)) (f (omega arith)))) so.between
      by (inr le) = before i le (omega arith)

  new_is : IsWordSpan source new
  new_is = record { some = some; within = end; inside = inside; begins = begins; ends = here }

  not_before : (s : Span) → IsWordSpan source s → at < s.to → from ≤ s.from
  not_before s w p = by (cases_lt s.from from)
    where
      by : (s.from < from) ⊎ (from ≤ s.from) → from ≤ s.from
      by (inl lt) = absurd (both (is_word_byte (slice_index source s.from)) (w.inside s.from (omega arith) w.some) (before s.from (starts_later source at spans so s w p) lt))
      by (inr le) = le

  same_from : (s : Span) → IsWordSpan source s → at < s.to → s.to ≤ to → from ≡ s.from
  same_from s w p q = by (cases_lt from s.from)
    where
      first : from ≤ s.from
      first = not_before s w p

      by : (from < s.from) ⊎ (s.from ≤ from) → from ≡ s.from
      by (inl lt) =
          let size = w.some in
          let i : ℕ = s.from - 1 in
          let e : suc i ≡ s.from = omega arith in
          absurd (both (is_word_byte (slice_index source i)) (inside i (omega arith) (omega arith)) (w.begins i e))
      by (inr le) = omega (arith, first)

  same_to : (s : Span) → IsWordSpan source s → at < s.to → s.to ≤ to → to ≡ s.to
  same_to s w p q = by (cases_lt s.to to)
    where
      first : from ≡ s.from
      first = same_from s w p q

      size : s.from < s.to
      size = w.some

      by : (s.to < to) ⊎ (to ≤ s.to) → to ≡ s.to
      by (inl lt) = absurd (both (is_word_byte (slice_index source s.to)) (inside s.to (omega (arith, first, size)) lt) (w.ends (omega arith)))
      by (inr le) = omega arith

  only_new : (s : Span) → IsWordSpan source s → at < s.to → s.to ≤ to → new ≡ s
  only_new s w p q = λ i. record { from = same_from s w p q i; to = same_to s w p q i }

  found : (s : Span) → IsWordSpan source s → s.to ≤ to → (s.to ≤ at) ⊎ (at < s.to) → Contains (spans ++ new ∷ []) s
  found s w q (inl le) = Contains-append_left spans (new ∷ []) s ((so.exact s).1 (w, le))
  found s w q (inr lt) = subst (λ (t : Span). Contains (spans ++ new ∷ []) t) (only_new s w lt q) (Contains-push spans new)

  told : (s : Span) → Contains (spans ++ new ∷ []) s → IsWordSpan source s × (s.to ≤ to)
  told s c = ⊎_elim (λ old. let o = (so.exact s).0 old in (o.0, omega (arith, o.1)))
      (λ e. subst (λ (t : Span). IsWordSpan source t × (t.to ≤ to)) e (new_is, omega arith)) (Contains-push_cases spans new s c)

  in_order : (k : ℕ) (d : Span) → k < length spans → (get_or spans k d).to < from
  in_order k d p =
      let o = (so.exact (get_or spans k d)).0 (Contains-get_or spans k d p) in
      let size = o.0.some in
      let le = o.1 in
      ⊎_elim (λ z. omega arith) (λ f. by (cases_lt at from) le f) so.between
    where
      by : (at < from) ⊎ (from ≤ at) → (get_or spans k d).to ≤ at → (at < length source → is_word_byte (slice_index source at) ≡ false) → (get_or spans k d).to < from
      by (inl lt) le f = omega arith
      by (inr back) le f = absurd (both (is_word_byte (slice_index source at)) (inside at (omega arith) (omega arith)) (f (omega arith)))

  -- one more word
  pub one_more : AreSpansBefore source to (spans ++ new ∷ [])
  one_more = record {
    within = end;
    rising = all_pairs_push (λ (s t : Span). s.to < t.from) spans new so.rising in_order;
    exact = λ s. (told s, λ w. found s w.0 w.1 (cases_lt' s));
    between = inr here;
    few = let n = length_push spans new in let few = so.few in omega arith;
  }
    where
      cases_lt' : (s : Span) → (s.to ≤ at) ⊎ (at < s.to)
      cases_lt' s = ⊎_elim inr inl (cases_lt at s.to)

-- no more words
pub none_more : (source : List ℕ) (at to : ℕ) (spans : List Span) → AreSpansBefore source at spans → to ≡ length source
    → ((i : ℕ) → at ≤ i → i < to → is_word_byte (slice_index source i) ≡ false) → AreSpansBefore source to spans
none_more source at to spans so e before = record {
  within = omega arith;
  rising = so.rising;
  exact = λ s. (λ c. let o = (so.exact s).0 c in let low = so.within in (o.0, omega (arith, o.1)), λ w. (so.exact s).1 (w.0, ended s w.0 (cases_lt at s.to)));
  between = inr (λ lt. absurd (omega arith));
  few = let few = so.few in let low = so.within in omega arith;
}
  where
    ended : (s : Span) → IsWordSpan source s → (at < s.to) ⊎ (s.to ≤ at) → s.to ≤ at
    ended s w (inl lt) =
        let within = w.within in
        let size = w.some in
        absurd (both (is_word_byte (slice_index source s.from)) (w.inside s.from (omega arith) w.some) (before s.from (starts_later source at spans so s w lt) (omega arith)))
    ended s w (inr le) = le

pub all_spans : (source : List ℕ) (at : ℕ) (spans : List Span) → AreSpansBefore source at spans → length source ≤ at → AreWordSpans source spans
all_spans source at spans so p = record {
  rising = so.rising;
  exact = λ s. (λ c. ((so.exact s).0 c).0, λ w. (so.exact s).1 (w, by s w));
}
  where
    by : (s : Span) → IsWordSpan source s → s.to ≤ at
    by s w = let within = w.within in omega arith

-- where no word begins, the text ends
pub ends_there : (source : List ℕ) (from to : ℕ) → from ≤ to → to ≤ length source → to ≤ from
    → (from < length source → is_word_byte (slice_index source from) ≡ true) → (to < length source → is_word_byte (slice_index source to) ≡ false)
    → to ≡ length source
ends_there source from to low high none begun over = by (cases_lt to (length source))
  where
    by : (to < length source) ⊎ (length source ≤ to) → to ≡ length source
    by (inl lt) =
        let same : from ≡ to = omega arith in
        absurd (both (is_word_byte (slice_index source to)) (subst (λ (i : ℕ). is_word_byte (slice_index source i) ≡ true) same (begun (omega arith))) (over lt))
    by (inr le) = omega arith
