-- What a drain leaves, in terms of the list before it.
use Rattle.std.proofs.Common.{◌≡◌, ℕ, ◌+◌, ◌-◌, ◌<◌, ◌≤◌, List, [], ◌∷◌, ◌++◌, length, take, drop, slice_range, Option, Some, None, refl, sym, ap, ◌∙◌, arith, length-take, length-drop}
use Rattle.std.specs.List.{remove_range}
use Rattle.stabby_vec.specs.Sequence.{Sequence}
use Rattle.stabby_vec.specs.Drains.{Draining, begun, dropped, stopped, SameRange, GivesFirst}
use Rattle.std.proofs.lemmas.List.{take_at, drop_at, drop-drop, take-append-drop, drop-take}

module _ {X : Type 0} where
  -- the items of a range and what stands behind it are all from its start on
  range_then_rest : (xs : List X) (m j : ℕ) → m ≤ j → slice_range xs m j ++ drop j xs ≡ drop m xs
  range_then_rest xs m j le =
      let same : j ≡ m + (j - m) = omega arith in
      ap (λ l. slice_range xs m j ++ l) (ap (λ n. drop n xs) same ∙ sym (drop-drop (j - m) m xs)) ∙ take-append-drop (j - m) (drop m xs)

  -- the items from m on go back to where the range was
  pub put_back : (xs : List X) (i m j : ℕ) → i ≤ m → m ≤ j → j ≤ length xs
      → take i (remove_range xs i j) ++ (slice_range xs m j ++ drop i (remove_range xs i j)) ≡ remove_range xs i m
  put_back xs i m j low high within =
      let long : length (take i xs) ≡ i = omega (arith, length-take i xs) in
      let front = take_at (take i xs) (drop j xs) i long in
      let back = drop_at (take i xs) (drop j xs) i long in
      rw (front, back) (ap (λ l. take i xs ++ l) (range_then_rest xs m j high))

  -- a read takes the first item of a range
  pub range_after_read : (xs : List X) (i j : ℕ) (x : X) (ys : List X) → slice_range xs i j ≡ x ∷ ys → ys ≡ slice_range xs (i + 1) j
  range_after_read xs i j x ys is =
      let long = ap length is in
      let count : j - i ≡ 1 + (j - (i + 1)) = omega (arith, long, length-take (j - i) (drop i xs)) in
      ap (drop 1) (sym is) ∙ ap (λ n. drop 1 (take n (drop i xs))) count ∙ drop-take 1 (j - (i + 1)) (drop i xs)
      ∙ ap (take (j - (i + 1))) (drop-drop 1 i xs)

  pub remove_nothing : (xs : List X) (i : ℕ) → remove_range xs i i ≡ xs
  remove_nothing xs i = take-append-drop i xs

  -- after one read from a range that isn't empty, the drain that is stopped leaves the list without that item
  pub stopped_after_read : (s : Sequence X) (i j : ℕ) (old new : Draining X) (item : Option X) → old ≡ begun s i j
      → SameRange old new → GivesFirst old item new → i < j → j ≤ length s.items
      → stopped new ≡ record s { items = remove_range s.items i (i + 1) }
  stopped_after_read s i j old new (Some x) is same gives some within =
      let left = range_after_read s.items i j x new.left (ap (λ d. d.left) (sym is) ∙ gives) in
      let out : new.outside ≡ remove_range s.items i j = same.outside ∙ ap (λ d. d.outside) is in
      let at : new.from ≡ i = same.from ∙ ap (λ d. d.from) is in
      let room : new.capacity ≡ s.capacity = same.capacity ∙ ap (λ d. d.capacity) is in
      rw (out, at, room, left) (ap (λ l. record s { items = l }) (put_back s.items i (i + 1) j (omega arith) (omega arith) within))
  stopped_after_read s i j old new None is same gives some within =
      let none : slice_range s.items i j ≡ [] = ap (λ d. d.left) (sym is) ∙ gives.0 in
      let long = ap length none in
      absurd (omega (arith, long, length-take (j - i) (drop i s.items), length-drop i s.items))

  -- what a dropped drain leaves stays under reads
  pub dropped_after_reads : {old new : Draining X} → SameRange old new → dropped new ≡ dropped old
  dropped_after_reads same = rw (same.outside, same.capacity) refl
