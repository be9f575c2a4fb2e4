-- From the spans of each word to an index of the text.
use Rattle.std.proofs.Common.{◌≡◌, ◌≤◌, ◌<◌, ◌+◌, ◌-◌, ℕ, zero, suc, List, [], ◌∷◌, ◌++◌, length, map, filter, take, drop, Bool, true, false, cond, if◌then◌else◌, get_or, Option, Some, None, slice_get, refl, sym, ◌∙◌, ap, subst, arith, IsUtf8, append-nil, Ordering, Result, Ok, Err, IfOk, OnOk, OnErr}
use denote.Ref.{Bor}
use Rattle.std.specs.List.{All, Any, Contains}
use Rattle.std.specs.Ordering.{nat_cmp}
use Rattle.std.specs.declared.cmp.Ordering.TheVariants.{Less}
use Rattle.std.specs.Cmp.{IsTotalOrder}
use Rattle.std.specs.Cmp.Lexicographic.{slice_cmp}
use Rattle.std.specs.Str.{IsAscii, bytes_eq}
use Rattle.std.specs.BTreeMap.{BTreeMap, get_by, IsOrdered, keys, values, UpdatesBy}
use Rattle.std.specs.Map.{keys_of, values_of}
use Rattle.std.proofs.lemmas.Bool.Decides.{nat_tests}
use Rattle.std.proofs.lemmas.Cmp.{on_total, nat_list_cmp_total}
use Rattle.std.proofs.lemmas.List.{get_or-take, get_or-drop, length-take, get_or-map}
use Rattle.std.proofs.lemmas.List.Elements.{All-contains, All-filter, All-contains_itself, filter_passes, filter_more, Contains-get_or}
use Rattle.std.proofs.lemmas.List.Kept.{AllPairs-filter}
use Rattle.std.proofs.lemmas.Map.Entries.{btree_map_get_place, place_from_lookup, length-keys_of, length-values_of}
use Rattle.std.proofs.lemmas.Map.Keys.{Less-from_sorted}
use Rattle.std.proofs.lemmas.Map.Text.{btree_map_updates_str}
use Rattle.std.proofs.lemmas.Simd.{map-map}
use Rattle.std.proofs.lemmas.Slice.Eq.{bytes_eq-Decides}
use Rattle.std.proofs.lemmas.Str.{IsUtf8-from_ascii}
use Rattle.std.proofs.lemmas.Str.Ascii.{IsAscii-from_reads}
use Rattle.stabby_tables.specs.Tables.{Table, is_same}
use Rattle.stabby_tables.specs.Lists.{has, place, AppendsSome, AppendsAbsent}
use Rattle.stabby_tables.specs.Shares.{IsFirstInShare}
use Rattle.stabby_tables.proofs.Growing.{same_itself}
use Rattle.stabby_registry.proofs.Versions.{number_of_place}
use Rattle.stabby_symbol.specs.Packed.{packed}
use Rattle.stabby_symbol.specs.Symbols.{IsText}
use Rattle.stabby_symbol.specs.Words.{is_word_byte, IsWordSpan, word_at, AreWordSpans}
use Rattle.stabby_symbol.specs.Index.{IndexedWordValue, IsIndexed, IsIndexOf, AppendsWords, AppendsSomeWords, tables_at, spans_of, indexed, entry_at, with_span}
use Rattle.stabby_symbol.specs.declared.words.Span.{Span}

-- ---- words are text
ascii_byte : (b : ℕ) → is_word_byte b ≡ true → b < 128
ascii_byte b e = grind (arith, nat_tests)

pub word_ascii : (source : List ℕ) (s : Span) → IsWordSpan source s → IsAscii (word_at source s)
word_ascii source s w = IsAscii-from_reads (word_at source s) (s.to - s.from) long read
  where
    long : length (word_at source s) ≤ s.to - s.from
    long = let n = length-take (s.to - s.from) (drop s.from source) in omega arith

    read : (k : ℕ) → k < s.to - s.from → get_or (word_at source s) k 0 < 128
    read k p =
        let a = get_or-take (s.to - s.from) (drop s.from source) k 0 p in
        let b = get_or-drop s.from source k 0 in
        let c = ascii_byte (get_or source (s.from + k) 0) (w.inside (s.from + k) (omega arith) (omega arith)) in
        omega arith

pub word_utf8 : (source : List ℕ) (s : Span) → IsWordSpan source s → IsUtf8 (word_at source s)
word_utf8 source s w = IsUtf8-from_ascii (word_at source s) (word_ascii source s w)

-- ---- a filter
kept_more : {X : Type 0} (b : Bool) (a : X) (l : List X) (x : X) → Contains l x → Contains (cond b (a ∷ l) l) x
kept_more true a l x c = (suc c.0, omega (arith, c.1), c.2)
kept_more false a l x c = c

kept_at : {X : Type 0} (p : X → Bool) (xs : List X) (x : X) (k : ℕ) → k < length xs → get_or xs k x ≡ x → p x ≡ true → Contains (filter p xs) x
kept_at p [] x k lt e q = absurd (omega arith)
kept_at p (a ∷ xs) x zero lt e q =
    let pass : p a ≡ true = ap p e ∙ q in
    subst (λ (b : Bool). Contains (cond b (a ∷ filter p xs) (filter p xs)) x) (sym pass) (zero, omega arith, e)
kept_at p (a ∷ xs) x (suc k) lt e q = kept_more (p a) a (filter p xs) x (kept_at p xs x k (omega arith) e q)

filter_has : {X : Type 0} (p : X → Bool) (xs : List X) (x : X) → Contains xs x → p x ≡ true → Contains (filter p xs) x
filter_has p xs x c q = kept_at p xs x c.0 c.1 c.2 q

filter_from : {X : Type 0} (p : X → Bool) (xs : List X) (x : X) → Contains (filter p xs) x → Contains xs x × (p x ≡ true)
filter_from p xs x c = (
  All-contains (Contains xs) (filter p xs) x (All-filter p (Contains xs) xs (All-contains_itself xs)) c,
  All-contains (λ y. p y ≡ true) (filter p xs) x (filter_passes p xs) c,
)

same_bytes : (a b : List ℕ) → bytes_eq a b ≡ true → a ≡ b
same_bytes a b e = grind (arith, bytes_eq-Decides, nat_tests)

equal_bytes : (a b : List ℕ) → a ≡ b → bytes_eq a b ≡ true
equal_bytes a b e = grind (arith, bytes_eq-Decides, nat_tests)

-- ---- tables at spans
has_more : (b : Bool) (t : Table) (ts : List Table) → has ts t ≡ true → (if b then true else has ts t) ≡ true
has_more true t ts e = refl
has_more false t ts e = e

has_at : (f : Span → Table) (xs : List Span) (s : Span) (k : ℕ) → k < length xs → get_or xs k s ≡ s → has (map f xs) (f s) ≡ true
has_at f [] s k lt e = absurd (omega arith)
has_at f (x ∷ xs) s zero lt e =
    let same : is_same (f x) (f s) ≡ true = ap (λ (y : Span). is_same (f y) (f s)) e ∙ same_itself (f s) in
    ap (λ (b : Bool). if b then true else has (map f xs) (f s)) same
has_at f (x ∷ xs) s (suc k) lt e = has_more (is_same (f x) (f s)) (f s) (map f xs) (has_at f xs s k (omega arith) e)

-- ---- one span more
entry_more : (number : List ℕ → ℕ) (q : List ℕ) (ss : List Span) (s : Span)
    → entry_at number q (ss ++ s ∷ []) ≡ Some (with_span (entry_at number q ss) q (number q) s)
entry_more number q [] s = refl
entry_more number q (a ∷ ss) s = refl

module _ (number : List ℕ → ℕ) (source : List ℕ) (spans : List Span) (i : ℕ) (d : Span) (within : i < length spans) (word : List ℕ)
    (is : word ≡ word_at source (get_or spans i d)) (q : List ℕ) where
  step_by : (b : Bool) → bytes_eq q (word_at source (get_or spans i d)) ≡ b → (b ≡ true → q ≡ word)
      → (if b then Some (with_span (entry_at number word (spans_of source (take i spans) word)) word (number word) (get_or spans i d))
      else entry_at number q (spans_of source (take i spans) q))
      ≡ entry_at number q (spans_of source (take i spans) q ++ cond b (get_or spans i d ∷ []) [])
  step_by true e same =
      let f : Span = get_or spans i d in
      let back : word ≡ q = sym (same refl) in
      ap (λ (w : List ℕ). Some (with_span (entry_at number w (spans_of source (take i spans) w)) w (number w) f)) back
      ∙ sym (entry_more number q (spans_of source (take i spans) q) f)
  step_by false e same = ap (entry_at number q) (sym (append-nil (spans_of source (take i spans) q)))

  -- the entries after one span more
  pub entry_step : (if bytes_eq word q then Some (with_span (entry_at number word (spans_of source (take i spans) word)) word (number word) (get_or spans i d))
      else entry_at number q (spans_of source (take i spans) q))
      ≡ entry_at number q (spans_of source (take (i + 1) spans) q)
  entry_step =
      let p : Span → Bool = λ s. bytes_eq q (word_at source s) in
      let f : Span = get_or spans i d in
      let flip : bytes_eq word q ≡ bytes_eq q (word_at source f) = flips word q ∙ ap (bytes_eq q) is in
      ap (λ (b : Bool). if b then Some (with_span (entry_at number word (spans_of source (take i spans) word)) word (number word) f)
      else entry_at number q (spans_of source (take i spans) q)) flip
      ∙ step_by (bytes_eq q (word_at source f)) refl (λ e. same_bytes q (word_at source f) e ∙ sym is)
      ∙ ap (entry_at number q) (sym (filter_more p spans i d within))
    where
      flips : (a b : List ℕ) → bytes_eq a b ≡ bytes_eq b a
      flips a b = grind (arith, bytes_eq-Decides, nat_tests)

-- the number of the word at a place
pub number_at : (number : List ℕ → ℕ) (source : List ℕ) (spans : List Span) (numbers : List ℕ) (i : ℕ) (d : Span) → i < length spans
    → numbers ≡ map (λ span. number (word_at source span)) spans → get_or numbers i 0 ≡ number (word_at source (get_or spans i d))
number_at number source spans numbers i d lt e =
    ap (λ (l : List ℕ). get_or l i 0) e ∙ get_or-map (λ (span : Span). number (word_at source span)) spans i d 0 lt

pub all_are : (source : List ℕ) (spans : List Span) → AreWordSpans source spans → All (IsWordSpan source) spans
all_are source spans are = λ k d lt. (are.exact (get_or spans k d)).0 (Contains-get_or spans k d lt)

abbrev pub str_cmp : Bor (List ℕ) → Bor (List ℕ) → Ordering
str_cmp x y = slice_cmp nat_cmp x.now y.now

module _ (word : Bor (List ℕ)) (symbol : ℕ) (span : Span) (m n : BTreeMap (Bor (List ℕ)) IndexedWordValue) (w : IndexedWordValue)
    (updates : UpdatesBy str_cmp (λ k. slice_cmp nat_cmp word.now k.now) m n (Some w)) (q : List ℕ) where
  put_is : (o : Option IndexedWordValue) → get_by (λ k. slice_cmp nat_cmp word.now k.now) m ≡ o → w ≡ with_span o word.now symbol span
      → get_by (λ k. slice_cmp nat_cmp q k.now) n
      ≡ (if bytes_eq word.now q then Some (with_span (get_by (λ k. slice_cmp nat_cmp word.now k.now) m) word.now symbol span)
      else get_by (λ k. slice_cmp nat_cmp q k.now) m)
  put_is o old is =
      btree_map_updates_str word.now m n (Some w) updates q
      ∙ (λ i. if bytes_eq word.now q then Some ((is ∙ (λ j. with_span (sym old j) word.now symbol span)) i) else get_by (λ k. slice_cmp nat_cmp q k.now) m)

  -- a word that was there has one more span
  pub put_behind : (found : IndexedWordValue) → get_by (λ k. slice_cmp nat_cmp word.now k.now) m ≡ Some found
      → w ≡ record { text = found.text; symbol = found.symbol; spans = found.spans ++ span ∷ [] }
      → get_by (λ k. slice_cmp nat_cmp q k.now) n
      ≡ (if bytes_eq word.now q then Some (with_span (get_by (λ k. slice_cmp nat_cmp word.now k.now) m) word.now symbol span)
      else get_by (λ k. slice_cmp nat_cmp q k.now) m)
  put_behind found old is = put_is (Some found) old is

  -- a word is new
  pub put_first : get_by (λ k. slice_cmp nat_cmp word.now k.now) m ≡ None → w ≡ with_span None word.now symbol span
      → get_by (λ k. slice_cmp nat_cmp q k.now) n
      ≡ (if bytes_eq word.now q then Some (with_span (get_by (λ k. slice_cmp nat_cmp word.now k.now) m) word.now symbol span)
      else get_by (λ k. slice_cmp nat_cmp q k.now) m)
  put_first old is = put_is None old is

pub put_new : (word : Bor (List ℕ)) (symbol : ℕ) (span : Span) (m before n : BTreeMap (Bor (List ℕ)) IndexedWordValue) (w : IndexedWordValue)
    → UpdatesBy str_cmp (λ k. slice_cmp nat_cmp word.now k.now) before n (Some w) → (q : List ℕ) → before ≡ m
    → get_by (λ k. slice_cmp nat_cmp word.now k.now) m ≡ None → w ≡ with_span None word.now symbol span
    → get_by (λ k. slice_cmp nat_cmp q k.now) n
    ≡ (if bytes_eq word.now q then Some (with_span (get_by (λ k. slice_cmp nat_cmp word.now k.now) m) word.now symbol span)
    else get_by (λ k. slice_cmp nat_cmp q k.now) m)
put_new word symbol span m before n w updates q same =
    put_first word symbol span m n w (subst (λ (x : BTreeMap (Bor (List ℕ)) IndexedWordValue). UpdatesBy str_cmp (λ k. slice_cmp nat_cmp word.now k.now) x n (Some w)) same updates) q

-- ---- a map's entries
entry_place : {K X : Type 0} (es : List (K × X)) (i : ℕ) (k : K) (x : X) → i < length (values_of es)
    → slice_get es i ≡ Some (get_or (keys_of es) i k, get_or (values_of es) i x)
entry_place [] i k x lt = absurd (omega arith)
entry_place (e ∷ es) zero k x lt = refl
entry_place (e ∷ es) (suc i) k x lt = entry_place es i k x (omega arith)

value_at : {K X : Type 0} (es : List (K × X)) (i : ℕ) (k : K) (x d : X) → slice_get es i ≡ Some (k, x)
    → (i < length (values_of es)) × (get_or (values_of es) i d ≡ x)
value_at [] i k x d e = absurd cc
value_at (a ∷ es) zero k x d e = (omega arith, let same : a ≡ (k, x) = cc in λ i. (same i).1)
value_at (a ∷ es) (suc i) k x d e = let h = value_at es i k x d e in (omega (arith, h.0), h.1)

entry_is : (number : List ℕ → ℕ) (q : List ℕ) (ss : List Span) (v : IndexedWordValue) → entry_at number q ss ≡ Some v → (v ≡ indexed number q ss) × (0 < length ss)
entry_is number q [] v e = absurd cc
entry_is number q (s ∷ ss) v e = (cc, omega arith)

some_entry : (number : List ℕ → ℕ) (q : List ℕ) (ss : List Span) → 0 < length ss → entry_at number q ss ≡ Some (indexed number q ss)
some_entry number q [] lt = absurd (omega arith)
some_entry number q (s ∷ ss) lt = refl

str_total : IsTotalOrder str_cmp
str_total = on_total (λ (x : Bor (List ℕ)). x.now) nat_list_cmp_total

abbrev no_key : Bor (List ℕ)
no_key = record { ref_ptr = (0, 0); now = [] }

module _ (source : List ℕ) (front : List Table) (spans : List Span) (m : BTreeMap (Bor (List ℕ)) IndexedWordValue) (are : AreWordSpans source spans) (ordered : IsOrdered str_cmp m)
    (gives : (q : List ℕ) → get_by (λ k. slice_cmp nat_cmp q k.now) m ≡ entry_at (λ w. place front (packed w)) q (spans_of source spans q))
    (known : (t : Table) → has (tables_at source spans) t ≡ true → has front t ≡ true) where
  abbrev number : List ℕ → ℕ
  number w = place front (packed w)

  abbrev at_word : List ℕ → Span → Bool
  at_word q s = bytes_eq q (word_at source s)

  is_number : (s : Span) → IsWordSpan source s → IsText front (word_at source s) (number (word_at source s))
  is_number s w = record {
    utf8 = word_utf8 source s w;
    number = let c = (are.exact s).1 w in
        number_of_place front (packed (word_at source s)) (known (packed (word_at source s)) (has_at (λ t. packed (word_at source t)) spans s c.0 c.1 c.2));
  }

  -- a word that has a span, with all its spans
  is_indexed : (q : List ℕ) → 0 < length (spans_of source spans q) → IsIndexed source front (indexed number q (spans_of source spans q))
  is_indexed q some = record {
    number = let e : word_at source first ≡ q = sym (same_bytes q (word_at source first) there.1) in
        subst (λ (w : List ℕ). IsText front w (number w)) e (is_number first ((are.exact first).0 there.0));
    some = some;
    rising = AllPairs-filter (λ (s t : Span). s.to < t.from) (at_word q) spans are.rising;
    exact = λ s. (
      λ c. let f = filter_from (at_word q) spans s c in ((are.exact s).0 f.0, sym (same_bytes q (word_at source s) f.1)),
      λ w. filter_has (at_word q) spans s ((are.exact s).1 w.0) (equal_bytes q (word_at source s) (sym w.1)),
    );
  }
    where
      first : Span
      first = get_or (spans_of source spans q) 0 (record { from = 0; to = 0 })

      there : Contains spans first × (at_word q first ≡ true)
      there = filter_from (at_word q) spans first (Contains-get_or (spans_of source spans q) 0 (record { from = 0; to = 0 }) some)

  abbrev key_at : ℕ → Bor (List ℕ)
  key_at i = get_or (keys m) i no_key

  entry_of : (i : ℕ) (d : IndexedWordValue) → i < length (values m)
      → (get_or (values m) i d ≡ indexed number (key_at i).now (spans_of source spans (key_at i).now)) × (0 < length (spans_of source spans (key_at i).now))
  entry_of i d lt =
      let at = entry_place m.entries i no_key d lt in
      let found = btree_map_get_place str_total m i (key_at i) (get_or (values m) i d) ordered at in
      entry_is number (key_at i).now (spans_of source spans (key_at i).now) (get_or (values m) i d) (sym (gives (key_at i).now) ∙ found)

  long : length (keys m) ≡ length (values m)
  long = length-keys_of m.entries ∙ sym (length-values_of m.entries)

  in_order : (i j : ℕ) (d : IndexedWordValue) → i < j → j < length (values m) → slice_cmp nat_cmp (get_or (values m) i d).text (get_or (values m) j d).text ≡ Less
  in_order i j d lt within =
      let a = (entry_of i d (omega arith)).0 in
      let b = (entry_of j d within).0 in
      let less : str_cmp (key_at i) (key_at j) ≡ Less = Less-from_sorted str_cmp (keys m) i j no_key ordered lt (omega (arith, long)) in
      (λ k. slice_cmp nat_cmp (a k).text (b k).text) ∙ less

  each : (i : ℕ) (d : IndexedWordValue) → i < length (values m) → IsIndexed source front (get_or (values m) i d)
  each i d lt =
      let e = entry_of i d lt in
      subst (λ (w : IndexedWordValue). IsIndexed source front w) (sym e.0) (is_indexed (key_at i).now e.1)

  every : (s : Span) → IsWordSpan source s → Any (λ word. word.text ≡ word_at source s) (values m)
  every s w =
      let q : List ℕ = word_at source s in
      let c = filter_has (at_word q) spans s ((are.exact s).1 w) (equal_bytes q q refl) in
      let v : IndexedWordValue = indexed number q (spans_of source spans q) in
      let found : get_by (λ k. slice_cmp nat_cmp q k.now) m ≡ Some v = gives q ∙ some_entry number q (spans_of source spans q) (omega (arith, c.1)) in
      let p = place_from_lookup _ m.entries v found in
      let x = value_at m.entries p.0 p.1 v v p.2 in
      (p.0, v, x.0, x.1, refl)

  pub index_is : IsIndexOf source front (values m)
  index_is = record { rising = in_order; each = each; every = every }

-- ---- what the call answers
pub if_values : {E : Type 0} (r : Result (List IndexedWordValue) E) (P : List IndexedWordValue → Type 0) (vs : List IndexedWordValue)
    → IfOk r (λ index. index ≡ vs) → P vs → IfOk r P
if_values (Ok index) P vs is p = subst P (sym is) p
if_values (Err fault) P vs is p = is

pub on_ok : {T E : Type 0} (r : Result T E) (P : Type 0) → P → OnOk r P
on_ok (Ok x) P p = p
on_ok (Err fault) P p = tt

pub on_err : {T E : Type 0} (r : Result T E) (P : Type 0) → P → OnErr r P
on_err (Ok x) P p = tt
on_err (Err fault) P p = p

module _ (workers : ℕ) (old front : List Table) (source bytes : List ℕ) (same : bytes ≡ source) (spans : List Span) (are : AreWordSpans bytes spans) (tables : List Table)
    (tables_are : tables ≡ tables_at bytes spans) where
  abbrev pub again : List Table
  again = tables_at source spans

  tables_again : tables ≡ again
  tables_again = tables_are ∙ ap (λ (b : List ℕ). tables_at b spans) same

  are_again : AreWordSpans source spans
  are_again = subst (λ (b : List ℕ). AreWordSpans b spans) same are

  pub appends_words : (numbers : List ℕ) → numbers ≡ map (place front) tables → AppendsAbsent old tables front → IsFirstInShare numbers workers (length old)
      → AppendsWords workers old source front
  appends_words numbers is absent first = record {
    spans = spans;
    are = are_again;
    absent = subst (λ (ts : List Table). AppendsAbsent old ts front) tables_again absent;
    first = subst (λ (ns : List ℕ). IsFirstInShare ns workers (length old)) (is ∙ ap (map (place front)) tables_again) first;
  }

  pub appends_some_words : AppendsSome old tables front → AppendsSomeWords old source front
  appends_some_words some = record { spans = spans; are = are_again; some = subst (λ (ts : List Table). AppendsSome old ts front) tables_again some }

  pub words_known : AppendsAbsent old tables front → (t : Table) → has (tables_at bytes spans) t ≡ true → has front t ≡ true
  words_known absent t member = absent.every t (ap (λ (ts : List Table). has ts t) tables_are ∙ member)

  pub words_numbered : (numbers : List ℕ) → numbers ≡ map (place front) tables → numbers ≡ map (λ span. place front (packed (word_at bytes span))) spans
  words_numbered numbers is = is ∙ ap (map (place front)) tables_are ∙ map-map (place front) (λ (span : Span). packed (word_at bytes span)) spans
