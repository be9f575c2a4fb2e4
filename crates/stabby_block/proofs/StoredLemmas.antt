-- What a `RustAlloc` does to the heap below, and what that means of its own blocks.
use Rattle.std.proofs.Common.{◌≡◌, ℕ, ◌+◌, ◌-◌, ◌^◌, ◌<◌, ◌≤◌, List, ◌++◌, length, take, drop, replicate, Bool, true, false, Option, Some, None, ◌==◌, if◌then◌else◌, IsTrue, true≢false, refl, sym, ap, subst, ◌∙◌, arith}
use Rattle.std.specs.Prelude.{slice_range, min, is_some}
use Rattle.std.specs.Option.{option_and_then}
use Rattle.std.proofs.lemmas.List.{length-drop, length-replicate, drop-drop, drop-replicate, drop-append-le, drop-take, take-append-le, take_at, drop_at, length-take-le, length-append, append_assoc, length-take, take-take}
use Rattle.stabby_layout.specs.declared.layout.Layout.{Layout}
use Rattle.stabby_block.specs.declared.block.Block.{Block}
use Rattle.stabby_block.specs.Blocks.{Held, Blocks, IsSound, IsHeld, IsLive, ChangesAt, MovesTo, SameBlocks, zeroed, written, resized}
use Rattle.stabby_block.specs.Prefix.{skip_of, layout_bytes}
use Rattle.stabby_block.specs.Stored.{kept, kept_blocks, Keeps, AllKept, prefix_before, whole_layout}
use Rattle.stabby_block.specs.StoredLaws.{stands_in}
use Rattle.stabby_block.proofs.BlockLemmas.{changed_at, changed_twice, moved_at, moved_then_changed}
use Rattle.stabby_block.specs.KeptLemmas.{kept_is, skip_low, same_held}

-- ---- a live block, and the block below

pub record Below (blocks : Blocks) (b : Block) (bytes : List ℕ) : Type 0 where
  pub aligned : 1 ≤ b.layout.align
  pub fits : (whole_layout b.layout).size < 2 ^ 64
  pub inner : List ℕ
  pub held : IsHeld blocks (record { number = b.number; layout = whole_layout b.layout }) inner
  pub sized : length inner ≡ skip_of b.layout.align + b.layout.size
  pub keeps : Keeps (record { layout = whole_layout b.layout; bytes = inner }) (record { layout = b.layout; bytes = bytes })

pub below_of : (blocks : Blocks) → ((n : ℕ) (h : Held) → blocks n ≡ Some h → IsSound h) → (b : Block) (bytes : List ℕ)
    → IsHeld (kept_blocks blocks) b bytes → Below blocks b bytes
below_of blocks sound b bytes is =
    let h : Held = record { layout = b.layout; bytes = bytes } in
    let s = stands_in blocks b.number h is in
    let w = sound b.number s.below s.there in
    let size : s.below.layout.size ≡ skip_of b.layout.align + b.layout.size = ap (λ l. l.size) s.keeps.whole in
    let same : s.below ≡ record { layout = whole_layout b.layout; bytes = s.below.bytes } = same_held s.below (record { layout = whole_layout b.layout; bytes = s.below.bytes }) s.keeps.whole refl in
    record {
      aligned = s.keeps.aligned;
      fits = omega (arith, size, w.size_fits);
      inner = s.below.bytes;
      held = s.there ∙ ap Some same;
      sized = w.sized ∙ size;
      keeps = subst (λ x. Keeps x h) same s.keeps;
    }

pub below_live : (blocks : Blocks) (b : Block) (bytes : List ℕ) (x : Block) → Below blocks b bytes
    → x ≡ record { number = b.number; layout = whole_layout b.layout } → IsLive blocks x
below_live blocks b bytes x below is = subst (IsLive blocks) (sym is) (below.inner, below.held)

pub below_held : (blocks : Blocks) (b : Block) (bytes : List ℕ) (x : Block) (below : Below blocks b bytes)
    → x ≡ record { number = b.number; layout = whole_layout b.layout } → IsHeld blocks x below.inner
below_held blocks b bytes x below is = subst (λ y. IsHeld blocks y below.inner) (sym is) below.held

-- ---- changes of the heap below

mapped : (b : Bool) (x o : Option Held) → option_and_then kept (if b then x else o) ≡ (if b then option_and_then kept x else option_and_then kept o)
mapped true x o = refl
mapped false x o = refl

pub kept_same : (old new : Blocks) → SameBlocks old new → SameBlocks (kept_blocks old) (kept_blocks new)
kept_same old new same q = ap (option_and_then kept) (same q)

pub kept_gone : (old new : Blocks) (n : ℕ) → ChangesAt old new n None → ChangesAt (kept_blocks old) (kept_blocks new) n None
kept_gone old new n change q = ap (option_and_then kept) (change q) ∙ mapped (q == n) None (old q)

pub kept_changes : (old new : Blocks) (n : ℕ) (x h : Held) → ChangesAt old new n (Some x) → Keeps x h → ChangesAt (kept_blocks old) (kept_blocks new) n (Some h)
kept_changes old new n x h change keeps q =
    ap (option_and_then kept) (change q) ∙ mapped (q == n) (Some x) (old q) ∙ ap (λ o. if q == n then o else kept_blocks old q) (kept_is x h keeps)

pub kept_moves : (old new : Blocks) (n m : ℕ) (x h : Held) → MovesTo old new n m x → Keeps x h → MovesTo (kept_blocks old) (kept_blocks new) n m h
kept_moves old new n m x h move keeps q =
    ap (option_and_then kept) (move q) ∙ mapped (q == m) (Some x) (if q == n then None else old q)
    ∙ ap (λ o. if q == m then o else option_and_then kept (if q == n then None else old q)) (kept_is x h keeps)
    ∙ ap (λ o. if q == m then Some h else o) (mapped (q == n) None (old q))

-- ---- the bytes below

pub drop_written : (xs : List ℕ) (at : ℕ) (more : List ℕ) → at + length more ≤ length xs → drop (at + length more) (written xs at more) ≡ drop (at + length more) xs
drop_written xs at more le =
    let first : length (take at xs) ≡ at = length-take-le at xs (omega (arith, le)) in
    let long : length (take at xs ++ more) ≡ at + length more = length-append (take at xs) more ∙ ap (λ n. n + length more) first in
    ap (drop (at + length more)) (sym (append_assoc (take at xs) more (drop (at + length more) xs)))
    ∙ drop_at (take at xs ++ more) (drop (at + length more) xs) (at + length more) long

-- what was just written
pub written_there : (xs : List ℕ) (at : ℕ) (more : List ℕ) → at ≤ length xs → slice_range (written xs at more) at (at + length more) ≡ more
written_there xs at more le =
    let first : length (take at xs) ≡ at = length-take-le at xs le in
    let n : at + length more - at ≡ length more = omega arith in
    ap (take (at + length more - at)) (drop_at (take at xs) (more ++ drop (at + length more) xs) at first)
    ∙ ap (λ k. take k (more ++ drop (at + length more) xs)) n
    ∙ take_at more (drop (at + length more) xs) (length more) refl

-- what lies before
pub written_before : (xs : List ℕ) (at : ℕ) (more : List ℕ) (from to : ℕ) → from ≤ to → to ≤ at → at ≤ length xs
    → slice_range (written xs at more) from to ≡ slice_range xs from to
written_before xs at more from to low high le =
    let rest = more ++ drop (at + length more) xs in
    let first : length (take at xs) ≡ at = length-take-le at xs le in
    let left : length (drop from (take at xs)) ≡ at - from = length-drop from (take at xs) ∙ ap (λ n. n - from) first in
    let split : at ≡ from + (at - from) = omega (arith, low, high) in
    ap (take (to - from)) (drop-append-le from (take at xs) rest (omega (arith, low, high, first)))
    ∙ take-append-le (to - from) (drop from (take at xs)) rest (omega (arith, high, left))
    ∙ ap (λ n. take (to - from) (drop from (take n xs))) split
    ∙ ap (take (to - from)) (drop-take from (at - from) xs)
    ∙ take-take (to - from) (at - from) (drop from xs) (omega (arith, high))

-- what lies behind a start
pub written_behind : (xs : List ℕ) (skip at : ℕ) (more : List ℕ) → skip + at + length more ≤ length xs
    → drop skip (written xs (skip + at) more) ≡ written (drop skip xs) at more
written_behind xs skip at more le =
    let rest = more ++ drop (skip + at + length more) xs in
    let first : length (take (skip + at) xs) ≡ skip + at = length-take-le (skip + at) xs (omega (arith, le)) in
    let sum' : skip + at + length more ≡ skip + (at + length more) = omega arith in
    let tail : drop (skip + at + length more) xs ≡ drop (at + length more) (drop skip xs) = ap (λ n. drop n xs) sum' ∙ sym (drop-drop (at + length more) skip xs) in
    drop-append-le skip (take (skip + at) xs) rest (omega (arith, first))
    ∙ ap (λ l. l ++ rest) (drop-take skip at xs)
    ∙ ap (λ l. take at (drop skip xs) ++ (more ++ l)) tail

pub resized_behind : (xs : List ℕ) (skip n : ℕ) → skip ≤ length xs → drop skip (resized xs (skip + n)) ≡ resized (drop skip xs) n
resized_behind xs skip n le =
    let zeros : List ℕ = replicate (skip + n - length xs) 0 in
    let first : length (take (skip + n) xs) ≡ min (skip + n) (length xs) = length-take (skip + n) xs in
    let left : length (drop skip xs) ≡ length xs - skip = length-drop skip xs in
    let count : skip + n - length xs ≡ n - length (drop skip xs) = omega (arith, left, le) in
    drop-append-le skip (take (skip + n) xs) zeros (omega (arith, first, le))
    ∙ ap (λ l. l ++ zeros) (drop-take skip n xs)
    ∙ ap (λ k. take n (drop skip xs) ++ replicate k 0) count

-- ---- the block below after a new prefix

-- a new block below: zero bytes, and the prefix written
pub keeps_new : (l : Layout) → 1 ≤ l.align
    → Keeps (record { layout = whole_layout l; bytes = written (replicate (skip_of l.align + l.size) 0) (skip_of l.align - 32) (layout_bytes l) }) (zeroed l)
keeps_new l pos =
    let skip = skip_of l.align in
    let zeros : List ℕ = replicate (skip + l.size) 0 in
    let low = skip_low l.align pos in
    let all : length zeros ≡ skip + l.size = length-replicate (skip + l.size) 0 in
    let end : skip - 32 + length (layout_bytes l) ≡ skip = omega (arith, low) in
    let rest : skip + l.size - skip ≡ l.size = omega arith in
    record {
      aligned = pos;
      whole = refl;
      prefix = ap (slice_range (written zeros (skip - 32) (layout_bytes l)) (skip - 32)) (sym end) ∙ written_there zeros (skip - 32) (layout_bytes l) (omega (arith, all));
      bytes = ap (λ n. drop n (written zeros (skip - 32) (layout_bytes l))) (sym end)
          ∙ drop_written zeros (skip - 32) (layout_bytes l) (omega (arith, all, end))
          ∙ ap (λ n. drop n zeros) end ∙ drop-replicate skip (skip + l.size) 0 ∙ ap (λ n. replicate n 0) rest;
    }

-- a resized block below, and its new prefix written
pub keeps_resized : (xs bytes : List ℕ) (l : Layout) → 1 ≤ l.align → skip_of l.align ≤ length xs → drop (skip_of l.align) xs ≡ bytes
    → Keeps (record { layout = whole_layout l; bytes = written (resized xs (skip_of l.align + l.size)) (skip_of l.align - 32) (layout_bytes l) })
    (record { layout = l; bytes = resized bytes l.size })
keeps_resized xs bytes l pos long is =
    let skip = skip_of l.align in
    let made = resized xs (skip + l.size) in
    let low = skip_low l.align pos in
    let first : length (take (skip + l.size) xs) ≡ min (skip + l.size) (length xs) = length-take (skip + l.size) xs in
    let all : length made ≡ min (skip + l.size) (length xs) + (skip + l.size - length xs) =
    length-append (take (skip + l.size) xs) (replicate (skip + l.size - length xs) 0) ∙ (omega (arith, first, length-replicate {A = ℕ} (skip + l.size - length xs) 0)) in
    let end : skip - 32 + length (layout_bytes l) ≡ skip = omega (arith, low) in
    record {
      aligned = pos;
      whole = refl;
      prefix = ap (slice_range (written made (skip - 32) (layout_bytes l)) (skip - 32)) (sym end) ∙ written_there made (skip - 32) (layout_bytes l) (omega (arith, all));
      bytes = ap (λ n. drop n (written made (skip - 32) (layout_bytes l))) (sym end)
          ∙ drop_written made (skip - 32) (layout_bytes l) (omega (arith, all, end))
          ∙ ap (λ n. drop n made) end ∙ resized_behind xs skip l.size long ∙ ap (λ b. resized b l.size) is;
    }

-- bytes written behind the prefix
pub keeps_written : (xs bytes : List ℕ) (l : Layout) (at : ℕ) (more : List ℕ) → skip_of l.align + at + length more ≤ length xs
    → Keeps (record { layout = whole_layout l; bytes = xs }) (record { layout = l; bytes = bytes })
    → Keeps (record { layout = whole_layout l; bytes = written xs (skip_of l.align + at) more }) (record { layout = l; bytes = written bytes at more })
keeps_written xs bytes l at more le keeps =
    let skip = skip_of l.align in
    let low = skip_low l.align keeps.aligned in
    record {
      aligned = keeps.aligned;
      whole = refl;
      prefix = written_before xs (skip + at) more (skip - 32) skip (omega (arith, low)) (omega arith) (omega (arith, le)) ∙ keeps.prefix;
      bytes = written_behind xs skip at more le ∙ ap (λ b. written b at more) keeps.bytes;
    }

-- bytes read behind the prefix
pub read_behind : (xs bytes : List ℕ) (skip at n : ℕ) → drop skip xs ≡ bytes → slice_range xs (skip + at) (skip + at + n) ≡ slice_range bytes at (at + n)
read_behind xs bytes skip at n is =
    let count : skip + at + n - (skip + at) ≡ at + n - at = omega arith in
    ap (λ k. take k (drop (skip + at) xs)) count ∙ ap (take (at + n - at)) (sym (drop-drop at skip xs) ∙ ap (drop at) is)

-- ---- `is_live`

pub never : {P : Type 0} → (P → ⊥) → (IsTrue false → P) × (P → IsTrue false)
never refuted = (λ t. absurd (true≢false (sym t)), λ p. absurd (refuted p))

module _ (blocks : Blocks) (sound : (n : ℕ) (h : Held) → blocks n ≡ Some h → IsSound h) (b : Block) where
  pub not_live_unaligned : b.layout.align ≡ 0 → IsLive (kept_blocks blocks) b → ⊥
  not_live_unaligned zero' live =
      let below = below_of blocks sound b live.0 live.1 in
      let pos = below.aligned in
      omega (arith, pos, zero')

  pub not_live_too_large : 2 ^ 64 ≤ (whole_layout b.layout).size → IsLive (kept_blocks blocks) b → ⊥
  not_live_too_large large live =
      let below = below_of blocks sound b live.0 live.1 in
      let fits = below.fits in
      omega (arith, fits, large)

  pub not_live_below : (whole : Layout) (live : Bool) → whole ≡ whole_layout b.layout
      → (IsTrue live → IsLive blocks (record { number = b.number; layout = whole })) × (IsLive blocks (record { number = b.number; layout = whole }) → IsTrue live)
      → live ≡ false → (IsTrue live → IsLive (kept_blocks blocks) b) × (IsLive (kept_blocks blocks) b → IsTrue live)
  not_live_below whole live is told dead = (
    λ t. absurd (true≢false (sym t ∙ dead)),
    λ l.
        let below = below_of blocks sound b l.0 l.1 in
        told.1 (subst (λ w. IsLive blocks (record { number = b.number; layout = w })) (sym is) (below.inner, below.held)),
  )

  pub live_by_prefix : (whole : Layout) (live prefix : Bool) → 1 ≤ b.layout.align → whole ≡ whole_layout b.layout
      → (IsTrue live → IsLive blocks (record { number = b.number; layout = whole })) × (IsLive blocks (record { number = b.number; layout = whole }) → IsTrue live)
      → live ≡ true
      → ((bytes : List ℕ) → IsHeld blocks (record { number = b.number; layout = whole }) bytes
      → (IsTrue prefix → prefix_before (record { layout = whole; bytes = bytes }) b.layout.align ≡ layout_bytes b.layout)
      × (prefix_before (record { layout = whole; bytes = bytes }) b.layout.align ≡ layout_bytes b.layout → IsTrue prefix))
      → (IsTrue prefix → IsLive (kept_blocks blocks) b) × (IsLive (kept_blocks blocks) b → IsTrue prefix)
  live_by_prefix whole live prefix pos is told lives reads =
      let there = told.0 lives in
      let W = whole_layout b.layout in
      let skip = skip_of b.layout.align in (
        λ t.
            let inner = there.0 in
            let held = subst (λ w. IsHeld blocks (record { number = b.number; layout = w }) inner) is there.1 in
            let same = (reads inner there.1).0 t in
            let h : Held = record { layout = b.layout; bytes = drop skip inner } in
            let keeps : Keeps (record { layout = W; bytes = inner }) h = record { aligned = pos; whole = refl; prefix = same; bytes = refl } in
            (drop skip inner, ap (option_and_then kept) held ∙ kept_is (record { layout = W; bytes = inner }) h keeps),
        λ l.
            let below = below_of blocks sound b l.0 l.1 in
            let held = subst (λ w. IsHeld blocks (record { number = b.number; layout = w }) below.inner) (sym is) below.held in
            (reads below.inner held).1 below.keeps.prefix,
      )

-- ---- `alloc` and `realloc`

-- a block of this heap, and the change of the block below
pub record Stored (old new : Blocks) (n : ℕ) (h : Held) : Type 0 where
  pub below : Held
  pub change : ChangesAt old new n (Some below)
  pub keeps : Keeps below h

pub record Moved (old new : Blocks) (n m : ℕ) (h : Held) : Type 0 where
  pub below : Held
  pub move : MovesTo old new n m below
  pub keeps : Keeps below h

-- a new block below, with its prefix written
pub new_stored : (old mid new : Blocks) (n : ℕ) (l given whole : Layout) → 1 ≤ l.align → given ≡ whole → whole ≡ whole_layout l
    → ChangesAt old mid n (Some (zeroed whole))
    → ((bytes : List ℕ) → mid n ≡ Some (record { layout = given; bytes = bytes })
    → ChangesAt mid new n (Some (record { layout = given; bytes = written bytes (skip_of l.align - 32) (layout_bytes l) })))
    → Stored old new n (zeroed l)
new_stored old mid new n l given whole pos same is first second =
    let W = whole_layout l in
    let named = same ∙ is in
    let zeros : List ℕ = replicate W.size 0 in
    let made : Held = record { layout = W; bytes = written zeros (skip_of l.align - 32) (layout_bytes l) } in
    let first' = subst (λ w. ChangesAt old mid n (Some (zeroed w))) is first in
    let live : mid n ≡ Some (record { layout = given; bytes = zeros }) =
    changed_at old mid n (Some (zeroed W)) first' ∙ ap (λ k. Some (record { layout = k; bytes = zeros })) (sym named) in
    let second' : ChangesAt mid new n (Some made) =
    subst (λ w. ChangesAt mid new n (Some (record { layout = w; bytes = written zeros (skip_of l.align - 32) (layout_bytes l) }))) named (second zeros live) in
    record { below = made; change = changed_twice old mid new n (Some (zeroed W)) (Some made) first' second'; keeps = keeps_new l pos }

-- a block below that was made another size, with its new prefix written
pub moved_stored : (old mid new : Blocks) (b : Block) (bytes : List ℕ) (m : ℕ) (l given : Layout) (below : Below old b bytes)
    → l.align ≡ b.layout.align → given ≡ whole_layout l
    → MovesTo old mid b.number m (record { layout = given; bytes = resized below.inner (whole_layout l).size })
    → ((now : List ℕ) → mid m ≡ Some (record { layout = given; bytes = now })
    → ChangesAt mid new m (Some (record { layout = given; bytes = written now (skip_of l.align - 32) (layout_bytes l) })))
    → Moved old new b.number m (record { layout = l; bytes = resized bytes l.size })
moved_stored old mid new b bytes m l given below align is move second =
    let W = whole_layout l in
    let now = resized below.inner W.size in
    let first : Held = record { layout = given; bytes = now } in
    let made : Held = record { layout = given; bytes = written now (skip_of l.align - 32) (layout_bytes l) } in
    let wrote = second now (moved_at old mid b.number m first move) in
    let whole = moved_then_changed old mid new b.number m first made move wrote in
    let pos : 1 ≤ l.align = subst (λ a. 1 ≤ a) (sym align) below.aligned in
    let skip : skip_of l.align ≡ skip_of b.layout.align = ap skip_of align in
    let long : skip_of l.align ≤ length below.inner = omega (arith, skip, below.sized) in
    let behind : drop (skip_of l.align) below.inner ≡ bytes = ap (λ s. drop s below.inner) skip ∙ below.keeps.bytes in
    let keeps = keeps_resized below.inner bytes l pos long behind in
    record {
      below = made;
      move = whole;
      keeps = subst (λ w. Keeps (record { layout = w; bytes = written now (skip_of l.align - 32) (layout_bytes l) }) (record { layout = l; bytes = resized bytes l.size })) (sym is) keeps;
    }

-- ---- each block below keeps a block

kept_unless : (b : Bool) (x h : Held) (o new : Option Held) → kept x ≡ Some h → new ≡ (if b then Some x else o)
    → (option_and_then kept o ≡ None → o ≡ None) → option_and_then kept new ≡ None → new ≡ None
kept_unless true x h o new keeps is old none = absurd (true≢false (ap is_some (sym (ap (option_and_then kept) is ∙ keeps) ∙ none)))
kept_unless false x h o new keeps is old none = is ∙ old (sym (ap (option_and_then kept) is) ∙ none)

kept_or_gone : (b : Bool) (o : Option Held) → (option_and_then kept o ≡ None → o ≡ None)
    → option_and_then kept (if b then None else o) ≡ None → (if b then None else o) ≡ None
kept_or_gone true o old none = refl
kept_or_gone false o old none = old none

pub all_kept_stored : (old new : Blocks) (n : ℕ) (h : Held) → AllKept old → Stored old new n h → AllKept new
all_kept_stored old new n h all s q = kept_unless (q == n) s.below h (old q) (new q) (kept_is s.below h s.keeps) (s.change q) (all q)

pub all_kept_moved : (old new : Blocks) (n m : ℕ) (h : Held) → AllKept old → Moved old new n m h → AllKept new
all_kept_moved old new n m h all s q =
    kept_unless (q == m) s.below h (if q == n then None else old q) (new q) (kept_is s.below h s.keeps) (s.move q) (kept_or_gone (q == n) (old q) (all q))
