-- What a sink took of a line that is written whole or in parts.
use Rattle.std.proofs.Common.{ℕ, ◌+◌, ◌<◌, List, ◌++◌, length, take, sym, subst, arith, Option, Result, Ok, Err, OnOk, OnErr}
use Rattle.std.proofs.lemmas.List.{take_all, take-append-le}
use Rattle.std.proofs.Math.Seq.{take-append-add}
use Rattle.stabby_intern.specs.Devices.{Took, Rose}
use Rattle.stabby_intern.specs.Messages.{IsTold}
use Rattle.stabby_intern.proofs.Moved.{took_more}

-- the first bytes of a text
abbrev pub TookPart : Option (List ℕ) → Option (List ℕ) → List ℕ → Type 0
TookPart a b text = (n : ℕ) × Took a b (take n text)

-- the first bytes of a text, and not all
abbrev pub TookProperPart : Option (List ℕ) → Option (List ℕ) → List ℕ → Type 0
TookProperPart a b text = (n : ℕ) × (n < length text) × Took a b (take n text)

pub told : {T E : Type 0} (r : Result T E) (a b : Option (List ℕ)) (before now : ℕ) (line : List ℕ) → OnOk r (Took a b line) → OnErr r (TookPart a b line) → OnErr r (Rose before now) → IsTold line a b before now
told (Ok x) a b before now line ok part failed = record { written = length line; part = subst (Took a b) (sym (take_all (length line) line (omega arith))) ok; whole = λ none. ok }
told (Err e) a b before now line ok part failed = record { written = part.0; part = part.1; whole = λ none. absurd (none failed) }

pub part_of : {T E : Type 0} (r : Result T E) (a b : Option (List ℕ)) (text : List ℕ) → OnErr r (TookProperPart a b text) → OnErr r (TookPart a b text)
part_of (Ok x) a b text part = tt
part_of (Err e) a b text part = (part.0, part.2)

-- ---- a line in three parts
pub first_part : (a b : Option (List ℕ)) (p more : List ℕ) → TookProperPart a b p → TookPart a b (p ++ more)
first_part a b p more part = (part.0, subst (Took a b) (sym (take-append-le part.0 p more (omega (arith, part.1)))) part.2)

later_part : (a b c : Option (List ℕ)) (p q : List ℕ) → Took a b p → TookPart b c q → TookPart a c (p ++ q)
later_part a b c p q before part = (length p + part.0, subst (Took a c) (sym (take-append-add p q part.0)) (took_more a b c p (take part.0 q) before part.1))

pub second_part : (a b c : Option (List ℕ)) (p q more : List ℕ) → Took a b p → TookProperPart b c q → TookPart a c (p ++ (q ++ more))
second_part a b c p q more before part = later_part a b c p (q ++ more) before (first_part b c q more part)

pub third_part : {T E : Type 0} (r : Result T E) (a b c d : Option (List ℕ)) (p q s : List ℕ) → Took a b p → Took b c q → OnErr r (TookProperPart c d s) → OnErr r (TookPart a d (p ++ (q ++ s)))
third_part (Ok x) a b c d p q s first second part = tt
third_part (Err e) a b c d p q s first second part = later_part a b d p (q ++ s) first (later_part b c d q s second (part.0, part.2))

pub all_parts : {T E : Type 0} (r : Result T E) (a b c d : Option (List ℕ)) (p q s : List ℕ) → Took a b p → Took b c q → OnOk r (Took c d s) → OnOk r (Took a d (p ++ (q ++ s)))
all_parts (Ok x) a b c d p q s first second last = took_more a b d p (q ++ s) first (took_more b c d q s second last)
all_parts (Err e) a b c d p q s first second last = tt
