-- A text after an ASCII byte was written over another one.
use Rattle.std.proofs.Common.{◌≡◌, ℕ, zero, suc, ◌+◌, ◌<◌, List, [], ◌∷◌, ◌++◌, length, get_or, set, take, drop, sym, subst, arith, add-one}
use Rattle.std.specs.Str.{IsUtf8}
use Rattle.std.specs.List.{refill}
use Rattle.std.proofs.lemmas.Str.{IsUtf8-append, IsUtf8-take, IsUtf8-drop, IsUtf8-from_ascii, IsCharBoundary-after_ascii}
use Rattle.std.proofs.lemmas.List.{set_split, take_at}

one_byte : (b : ℕ) → b < 128 → (i : ℕ) → get_or (b ∷ []) i 0 < 128
one_byte b low zero = low
one_byte b low (suc i) = omega arith

pub set_ascii_utf8 : (bs : List ℕ) (i b : ℕ) → IsUtf8 bs → i < length bs → get_or bs i 0 < 128 → b < 128 → IsUtf8 (set bs i b)
set_ascii_utf8 bs i b text within old new =
    let front = IsUtf8-take bs i text (omega arith, λ _ high. absurd (omega (arith, old, high))) in
    let back = IsUtf8-drop bs (i + 1) text (IsCharBoundary-after_ascii bs i text within old) in
    let whole = IsUtf8-append (take i bs) (b ∷ drop (i + 1) bs) front
    (IsUtf8-append (b ∷ []) (drop (i + 1) bs) (IsUtf8-from_ascii (b ∷ []) (one_byte b new)) back) in
    subst IsUtf8 (sym (set_split bs i b within)) (subst (λ n. IsUtf8 (take i bs ++ b ∷ drop n bs)) (add-one i) whole)

pub refill_whole : (xs ys : List ℕ) → length ys ≡ length xs → refill (length xs) xs ys ≡ ys
refill_whole xs ys same = take_at ys (drop (length ys) xs) (length xs) same

pub concat_utf8 : (bs ds : List ℕ) → IsUtf8 bs → IsUtf8 ds → IsUtf8 (bs ++ ds)
concat_utf8 = IsUtf8-append
