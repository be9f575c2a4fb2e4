-- Words hold the bytes that they are made of, and give them back.
use Rattle.std.proofs.Common.{◌≡◌, ◌↔◌, ℕ, zero, suc, ◌+◌, ◌-◌, ◌*◌, ◌<◌, ◌≤◌, ◌^◌, Bool, true, false, List, [], ◌∷◌, ◌++◌, length, take, drop, replicate, get_or, IsUtf8, refl, sym, ap, ◌∙◌, subst, arith, append_assoc, append-nil, length-append, length-drop, drop-cons, ⊎_elim, eqb, if◌then◌else◌, Some, None, slice_index, min, Result, Ok, Err, IfOk, MatchResult}
use Rattle.std.specs.Int.{to_le_bytes, from_le_bytes, w64}
use Rattle.std.specs.Str.{is_utf8}
use Rattle.std.proofs.lemmas.Nat.{le_bytes_8, from_le_bytes-to_le_bytes_8}
use Rattle.std.proofs.lemmas.List.{take-append-drop, take_more, length-take, length-take-le, length-replicate, replicate-append-replicate}
use Rattle.std.proofs.lemmas.Str.{IsUtf8-from_is_utf8, is_utf8-from_IsUtf8}
use Rattle.std.proofs.lemmas.Grind.{common_steps}
use Rattle.std.proofs.lemmas.Bool.{cases_lt}
use Rattle.std.proofs.lemmas.Bool.Decides.{nat_tests}
use Rattle.stabby_symbol.specs.Packed.{words_for, word_of, words_of, packed, bytes_in}
use Rattle.stabby_symbol.specs.Unpacked.{all_zero, unpack_fault, IsUnpacked, TellsCause}
use Rattle.stabby_symbol.specs.declared.unpacking.UnpackFault.{UnpackFault}
use Rattle.stabby_symbol.specs.declared.unpacking.UnpackFault.TheVariants.{Length, Padding, Utf8, Memory}
use Rattle.stabby_symbol.proofs.Bytes.{IsBytes, append_bytes, zero_bytes, take_bytes, drop_bytes, utf8_bytes}

abbrev zeros : ℕ → List ℕ
zeros n = replicate n 0

filled_long : (l : List ℕ) → length l ≤ 8 → length (l ++ zeros (8 - length l)) ≡ 8
filled_long l p = let a = length-append l (zeros (8 - length l)) in let b = length-replicate {A = ℕ} (8 - length l) 0 in omega arith

-- a word's bytes are those that it was made of, and zeros
word_bytes : (l : List ℕ) → IsBytes l → length l ≤ 8 → to_le_bytes w64 (word_of l) ≡ l ++ zeros (8 - length l)
word_bytes l s p =
    le_bytes_8 (l ++ zeros (8 - length l)) (word_of l) (filled_long l p) (append_bytes l (zeros (8 - length l)) s (zero_bytes (8 - length l))) refl

take_all : (n : ℕ) (l : List ℕ) → length l ≤ n → take n l ≡ l
take_all n l p = grind (arith, common_steps)

drop_all : (n : ℕ) (l : List ℕ) → length l ≤ n → drop n l ≡ []
drop_all n l p = grind (arith, common_steps)

none_left : (l : List ℕ) → length l ≤ 0 → l ≡ []
none_left [] p = refl
none_left (a ∷ l) p = absurd (omega arith)

take_short : (n : ℕ) (l : List ℕ) → length (take n l) ≤ n
take_short n l = let e = length-take n l in omega arith

joined_short : (n : ℕ) (l : List ℕ) → length l < 8
    → (take 8 l ++ zeros (8 - length (take 8 l))) ++ (drop 8 l ++ zeros (8 * n - length (drop 8 l))) ≡ l ++ zeros (8 * suc n - length l)
joined_short n l lt =
    let t = take_all 8 l (omega arith) in
    let d = drop_all 8 l (omega arith) in
    let k : (8 - length l) + (8 * n - 0) ≡ 8 * suc n - length l = omega arith in
    (λ i. (t i ++ zeros (8 - length (t i))) ++ (d i ++ zeros (8 * n - length (d i))))
    ∙ append_assoc l (zeros (8 - length l)) (zeros (8 * n - 0))
    ∙ ap (λ (m : List ℕ). l ++ m) (replicate-append-replicate (8 - length l) (8 * n - 0) 0 ∙ ap zeros k)

joined_long : (n : ℕ) (l : List ℕ) → 8 ≤ length l
    → (take 8 l ++ zeros (8 - length (take 8 l))) ++ (drop 8 l ++ zeros (8 * n - length (drop 8 l))) ≡ l ++ zeros (8 * suc n - length l)
joined_long n l le =
    let t = length-take-le 8 l le in
    let d = length-drop 8 l in
    let z : 8 - length (take 8 l) ≡ 0 = omega arith in
    let k : 8 * n - length (drop 8 l) ≡ 8 * suc n - length l = omega arith in
    (λ i. (take 8 l ++ zeros (z i)) ++ (drop 8 l ++ zeros (k i)))
    ∙ ap (λ (m : List ℕ). m ++ (drop 8 l ++ zeros (8 * suc n - length l))) (append-nil (take 8 l))
    ∙ sym (append_assoc (take 8 l) (drop 8 l) (zeros (8 * suc n - length l)))
    ∙ ap (λ (m : List ℕ). m ++ zeros (8 * suc n - length l)) (take-append-drop 8 l)

-- the bytes of the words of some bytes are these, and zeros after them
pub bytes_words : (n : ℕ) (l : List ℕ) → IsBytes l → length l ≤ 8 * n → bytes_in (words_of n l) ≡ l ++ zeros (8 * n - length l)
bytes_words zero l s p = subst (λ (m : List ℕ). [] ≡ m ++ zeros (8 * 0 - length m)) (sym (none_left l (omega arith))) refl
bytes_words (suc n) l s p =
    let w = word_bytes (take 8 l) (take_bytes 8 l s) (take_short 8 l) in
    let d = length-drop 8 l in
    let h = bytes_words n (drop 8 l) (drop_bytes 8 l s) (omega arith) in
    (λ i. w i ++ h i) ∙ ⊎_elim (λ lt. joined_short n l lt) (λ le. joined_long n l le) (cases_lt (length l) 8)

pub words_long : (n : ℕ) (l : List ℕ) → length (words_of n l) ≡ n
words_long zero l = refl
words_long (suc n) l = ap suc (words_long n (drop 8 l))

pub bytes_long : (ws : List ℕ) → length (bytes_in ws) ≡ 8 * length ws
bytes_long [] = refl
bytes_long (w ∷ ws) = let h = bytes_long ws in omega arith

-- words are those of their bytes
words_back : (ws : List ℕ) → ((i : ℕ) → get_or ws i 0 < 2 ^ 64) → words_of (length ws) (bytes_in ws) ≡ ws
words_back [] s = refl
words_back (w ∷ ws) s = λ i. from_le_bytes-to_le_bytes_8 w (s 0) i ∷ words_back ws (λ j. s (suc j)) i

words_round : (n : ℕ) (l : List ℕ) → IsBytes l → words_of n (bytes_in (words_of n l)) ≡ words_of n l
words_round zero l s = refl
words_round (suc n) l s =
    let w = word_bytes (take 8 l) (take_bytes 8 l s) (take_short 8 l) in
    let h = words_round n (drop 8 l) (drop_bytes 8 l s) in
    λ i. from_le_bytes w64 (w i) ∷ h i

take_front : (l m : List ℕ) → take (length l) (l ++ m) ≡ l
take_front [] m = refl
take_front (a ∷ l) m = ap (λ (k : List ℕ). a ∷ k) (take_front l m)

drop_front : (l m : List ℕ) → drop (length l) (l ++ m) ≡ m
drop_front [] m = refl
drop_front (a ∷ l) m = drop_front l m

last_word : (n : ℕ) (l : List ℕ) → 0 < length l → length l < 8 → n ≡ min (length l) 8
    → words_of (words_for (length l)) l ≡ word_of (take n l) ∷ words_of (words_for (length (drop n l))) (drop n l)
last_word n l p lt e =
    let one : words_for (length l) ≡ suc zero = omega arith in
    let t : take 8 l ≡ take n l = take_all 8 l (omega arith) ∙ sym (take_all n l (omega arith)) in
    let d : [] ≡ drop n l = sym (drop_all n l (omega arith)) in
    (λ i. words_of (one i) l) ∙ (λ i. word_of (t i) ∷ words_of (words_for (length (d i))) (d i))

whole_word : (n : ℕ) (l : List ℕ) → 8 ≤ length l → n ≡ min (length l) 8
    → words_of (words_for (length l)) l ≡ word_of (take n l) ∷ words_of (words_for (length (drop n l))) (drop n l)
whole_word n l le e =
    let eight : 8 ≡ n = omega arith in
    let d = length-drop 8 l in
    let more : words_for (length l) ≡ suc (words_for (length (drop 8 l))) = omega arith in
    (λ i. words_of (more i) l) ∙ (λ i. word_of (take (eight i) l) ∷ words_of (words_for (length (drop (eight i) l))) (drop (eight i) l))

-- the first word of some bytes, and those of the bytes after it
more_words : (n : ℕ) (l : List ℕ) → 0 < length l → n ≡ min (length l) 8
    → words_of (words_for (length l)) l ≡ word_of (take n l) ∷ words_of (words_for (length (drop n l))) (drop n l)
more_words n l p e = ⊎_elim (λ lt. last_word n l p lt e) (λ le. whole_word n l le e) (cases_lt (length l) 8)

-- one more word is written
pub word_put : (out new all rest own after : List ℕ) (n w : ℕ) → new ≡ out ++ w ∷ [] → w ≡ word_of own → own ≡ take n rest
    → after ≡ drop n rest → 0 < length rest → n ≡ min (length rest) 8 → out ++ words_of (words_for (length rest)) rest ≡ all
    → new ++ words_of (words_for (length after)) after ≡ all
word_put out new all rest own after n w put is o d some e so_far =
    let assoc = append_assoc out (w ∷ []) (words_of (words_for (length after)) after) in
    let more = more_words n rest some e in
    let v : w ≡ word_of (take n rest) = is ∙ ap word_of o in
    (λ i. put i ++ words_of (words_for (length after)) after) ∙ assoc
    ∙ (λ i. out ++ (v i ∷ words_of (words_for (length (d i))) (d i))) ∙ ap (λ (l : List ℕ). out ++ l) (sym more) ∙ so_far

bytes_joined : (ws vs : List ℕ) → bytes_in (ws ++ vs) ≡ bytes_in ws ++ bytes_in vs
bytes_joined [] vs = refl
bytes_joined (w ∷ ws) vs = ap (λ (l : List ℕ). to_le_bytes w64 w ++ l) (bytes_joined ws vs) ∙ sym (append_assoc (to_le_bytes w64 w) (bytes_in ws) (bytes_in vs))

-- the bytes of one more word
pub bytes_more : (ws : List ℕ) (i : ℕ) → i < length ws → bytes_in (take (i + 1) ws) ≡ bytes_in (take i ws) ++ to_le_bytes w64 (get_or ws i 0)
bytes_more ws i p =
    ap bytes_in (take_more ws i 0 p) ∙ bytes_joined (take i ws) (get_or ws i 0 ∷ [])
    ∙ ap (λ (l : List ℕ). bytes_in (take i ws) ++ l) (append-nil (to_le_bytes w64 (get_or ws i 0)))

zero_test : (n : ℕ) → all_zero (zeros n) ≡ true
zero_test zero = refl
zero_test (suc n) = zero_test n

all_zeros : (l : List ℕ) → all_zero l ≡ true → l ≡ zeros (length l)
all_zeros [] e = refl
all_zeros (b ∷ l) e =
    let z : b ≡ 0 = grind (arith, nat_tests) in
    let n : all_zero l ≡ true = grind (arith, nat_tests) in
    let h = all_zeros l n in
    λ i. z i ∷ h i

-- a table without a fault
passes : (s : ℕ) (ws : List ℕ) → eqb (length ws) (words_for s) ≡ true → all_zero (drop s (bytes_in ws)) ≡ true → is_utf8 (take s (bytes_in ws)) ≡ true
    → unpack_fault (s ∷ ws) ≡ None
passes s ws e z u = λ i. if e i then (if z i then (if u i then None else Some Utf8) else Some Padding) else Some (Length s (length ws))

refused : (s : ℕ) (ws : List ℕ) → eqb (length ws) (words_for s) ≡ true → all_zero (drop s (bytes_in ws)) ≡ true → is_utf8 (take s (bytes_in ws)) ≡ false
    → unpack_fault (s ∷ ws) ≡ Some Utf8
refused s ws e z u = λ i. if e i then (if z i then (if u i then None else Some Utf8) else Some Padding) else Some (Length s (length ws))

not_true : (b : Bool) → (b ≡ true → ⊥) → b ≡ false
not_true true n = absurd (n refl)
not_true false n = refl

same_test : (m n : ℕ) → m ≡ n → eqb m n ≡ true
same_test m n e = grind (arith, nat_tests)

-- a table whose bytes are a text, and zeros after it
pub no_fault : (s : ℕ) (ws t p : List ℕ) → length ws ≡ words_for s → p ≡ drop s (bytes_in ws) → all_zero p ≡ true
    → t ≡ take s (bytes_in ws) → IsUtf8 t → unpack_fault (s ∷ ws) ≡ None
no_fault s ws t p n d z e u =
    passes s ws (same_test (length ws) (words_for s) n) (ap all_zero (sym d) ∙ z) (ap is_utf8 (sym e) ∙ is_utf8-from_IsUtf8 t u)

-- a table whose bytes are no text
pub no_text : (s : ℕ) (ws t p : List ℕ) → length ws ≡ words_for s → p ≡ drop s (bytes_in ws) → all_zero p ≡ true
    → t ≡ take s (bytes_in ws) → (IsUtf8 t → ⊥) → unpack_fault (s ∷ ws) ≡ Some Utf8
no_text s ws t p n d z e u =
    refused s ws (same_test (length ws) (words_for s) n) (ap all_zero (sym d) ∙ z)
    (ap is_utf8 (sym e) ∙ not_true (is_utf8 t) (λ y. u (IsUtf8-from_is_utf8 t y)))

parts : (a b c : Bool) (f g h : UnpackFault) → (if a then (if b then (if c then None else Some f) else Some g) else Some h) ≡ None
    → (a ≡ true) × ((b ≡ true) × (c ≡ true))
parts true true true f g h e = (refl, (refl, refl))
parts true true false f g h e = cc
parts true false c f g h e = cc
parts false b c f g h e = cc

room_for : (n : ℕ) → n ≤ 8 * words_for n
room_for n = omega arith

-- so many words have the bytes of the text
pub text_within : (s : ℕ) (ws : List ℕ) → length ws ≡ words_for s → s ≤ length (bytes_in ws)
text_within s ws e = let room = room_for s in let long = bytes_long ws in omega arith

-- a packed text has no fault, and is the text
pub packed_bytes : (text : List ℕ) → IsUtf8 text
    → bytes_in (words_of (words_for (length text)) text) ≡ text ++ zeros (8 * words_for (length text) - length text)
packed_bytes text u = bytes_words (words_for (length text)) text (utf8_bytes text u) (room_for (length text))

pub packed_back : (text : List ℕ) → IsUtf8 text → take (length text) (bytes_in (words_of (words_for (length text)) text)) ≡ text
packed_back text u = ap (take (length text)) (packed_bytes text u) ∙ take_front text (zeros (8 * words_for (length text) - length text))

-- texts with one table are one text
pub one_text : (s t : List ℕ) → IsUtf8 s → IsUtf8 t → packed s ≡ packed t → s ≡ t
one_text s t u v e =
    let n : length s ≡ length t = cc in
    let w : words_of (words_for (length s)) s ≡ words_of (words_for (length t)) t = cc in
    sym (packed_back s u) ∙ (λ i. take (n i) (bytes_in (w i))) ∙ packed_back t v

pub packed_passes : (text : List ℕ) → IsUtf8 text → unpack_fault (packed text) ≡ None
packed_passes text u =
    let k = 8 * words_for (length text) - length text in
    let many = words_long (words_for (length text)) text in
    passes (length text) (words_of (words_for (length text)) text) (grind (arith, nat_tests))
    (ap (λ (l : List ℕ). all_zero (drop (length text) l)) (packed_bytes text u) ∙ ap all_zero (drop_front text (zeros k)) ∙ zero_test k)
    (ap is_utf8 (packed_back text u) ∙ is_utf8-from_IsUtf8 text u)

-- what passes is packed
packed_if : (s : ℕ) (ws t : List ℕ) → ((i : ℕ) → get_or ws i 0 < 2 ^ 64) → length ws ≡ words_for s → t ≡ take s (bytes_in ws)
    → IsBytes t → all_zero (drop s (bytes_in ws)) ≡ true → s ∷ ws ≡ packed t
packed_if s ws t small n is bytes z =
    let long = bytes_long ws in
    let room = room_for s in
    let lt : length t ≡ s = ap length is ∙ length-take-le s (bytes_in ws) (omega arith) in
    let d = length-drop s (bytes_in ws) in
    let k : length (drop s (bytes_in ws)) ≡ 8 * length ws - length t = omega arith in
    let whole : bytes_in ws ≡ t ++ zeros (8 * length ws - length t) =
    sym (take-append-drop s (bytes_in ws)) ∙ (λ i. sym is i ++ (all_zeros (drop s (bytes_in ws)) z ∙ ap zeros k) i) in
    let b = bytes_words (length ws) t bytes (omega arith) in
    let same : ws ≡ words_of (length ws) t =
    sym (words_back ws small) ∙ ap (words_of (length ws)) (whole ∙ sym b) ∙ words_round (length ws) t bytes in
    let many : length ws ≡ words_for (length t) = n ∙ ap words_for (sym lt) in
    λ i. sym lt i ∷ (same ∙ ap (λ (m : ℕ). words_of m t) many) i

pub passed_packed : (s : ℕ) (ws : List ℕ) → ((i : ℕ) → get_or ws i 0 < 2 ^ 64) → unpack_fault (s ∷ ws) ≡ None → IsUnpacked (s ∷ ws) (take s (bytes_in ws))
passed_packed s ws small e =
    let p = parts (eqb (length ws) (words_for s)) (all_zero (drop s (bytes_in ws))) (is_utf8 (take s (bytes_in ws))) Utf8 Padding (Length s (length ws)) e in
    let u = IsUtf8-from_is_utf8 (take s (bytes_in ws)) p.1.1 in
    let p0 = p.0 in
    let n : length ws ≡ words_for s = grind (arith, nat_tests) in
    record { utf8 = u; is = packed_if s ws (take s (bytes_in ws)) small n refl (utf8_bytes (take s (bytes_in ws)) u) p.1.0 }

pub none_exactly_packed : (table : List ℕ) → ((i : ℕ) → slice_index table i < 2 ^ 64) → (unpack_fault table ≡ None) ↔ ((text : List ℕ) × IsUnpacked table text)
none_exactly_packed [] small = (λ e. absurd cc, λ x. let q = x.1.is in absurd cc)
none_exactly_packed (s ∷ ws) small = (
  λ e. (take s (bytes_in ws), passed_packed s ws (λ i. small (suc i)) e),
  λ x. subst (λ (t : List ℕ). unpack_fault t ≡ None) (sym x.1.is) (packed_passes x.0 x.1.utf8),
)

-- a table that has a word is the first and those after it
pub first_and_rest : (t : List ℕ) → 1 ≤ length t → t ≡ get_or t 0 0 ∷ take (length t - 1) (drop 1 t)
first_and_rest t p =
    let d = length-drop 1 t in
    drop-cons t 0 0 p ∙ ap (λ (l : List ℕ). get_or t 0 0 ∷ l) (sym (take_all (length t - 1) (drop 1 t) (omega arith)))

tables_text : (table : List ℕ) (s : ℕ) (ws : List ℕ) → table ≡ s ∷ ws → ((i : ℕ) → slice_index table i < 2 ^ 64) → unpack_fault (s ∷ ws) ≡ None
    → IsUnpacked table (take s (bytes_in ws))
tables_text table s ws e small none =
    let small' : (i : ℕ) → slice_index (s ∷ ws) i < 2 ^ 64 = subst (λ (t : List ℕ). (i : ℕ) → slice_index t i < 2 ^ 64) e small in
    subst (λ (t : List ℕ). IsUnpacked t (take s (bytes_in ws))) (sym e) (passed_packed s ws (λ i. small' (suc i)) none)

-- what the words after the length say of the table
pub unpacked_table : (table : List ℕ) (s : ℕ) (ws : List ℕ) (r : Result (List ℕ) UnpackFault) → table ≡ s ∷ ws
    → ((i : ℕ) → slice_index table i < 2 ^ 64) → TellsCause (unpack_fault (s ∷ ws)) r → IfOk r (λ t. t ≡ take s (bytes_in ws)) → IfOk r (IsUnpacked table)
unpacked_table table s ws (Ok t) e small none is = subst (λ (u : List ℕ). IsUnpacked table u) (sym is) (tables_text table s ws e small none)
unpacked_table table s ws (Err f) e small cause is = is

-- a packed text comes back
pub text_back : (table : List ℕ) (s : ℕ) (ws : List ℕ) (r : Result (List ℕ) UnpackFault) → table ≡ s ∷ ws
    → ((i : ℕ) → slice_index table i < 2 ^ 64) → TellsCause (unpack_fault (s ∷ ws)) r → IfOk r (λ t. t ≡ take s (bytes_in ws))
    → (text : List ℕ) → IsUtf8 text → table ≡ packed text → MatchResult r (λ found. found ≡ text) (λ fault. fault ≡ Memory)
text_back table s ws (Ok t) e small none is text u p =
    let ok = unpacked_table table s ws (Ok t) e small none is in
    one_text t text (IsUnpacked.utf8 ok) u (sym (IsUnpacked.is ok) ∙ p)
text_back table s ws (Err f) e small cause is text u p = ⊎_elim (λ m. m)
    (λ x. let none : unpack_fault (s ∷ ws) ≡ None = ap unpack_fault (sym e ∙ p) ∙ packed_passes text u in absurd cc) cause
