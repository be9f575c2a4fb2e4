-- Which tables are packed texts, and why others are not.
use Rattle.std.specs.Prelude.{◌≡◌, ◌⊎◌, ◌==◌, ℕ, List, [], ◌∷◌, length, take, drop, Bool, eqb, if◌then◌else◌, Option, Some, None, Result, MatchResult}
use Rattle.std.specs.List.{list_all}
use Rattle.std.specs.Str.{IsUtf8, is_utf8}
use Rattle.stabby_symbol.specs.Packed.{words_for, bytes_in, packed}
use Rattle.stabby_symbol.specs.declared.unpacking.UnpackFault.{UnpackFault}
use Rattle.stabby_symbol.specs.declared.unpacking.UnpackFault.TheVariants.{NoLength, Length, Padding, Utf8, Memory}

-- whether each byte is zero
abbrev pub all_zero : List ℕ → Bool
all_zero bytes = list_all (λ b. b == 0) bytes

-- The first cause of four: no word; a length that the words after it aren't for; a byte past the length that isn't zero;
-- bytes that aren't UTF-8.
abbrev pub unpack_fault : List ℕ → Option UnpackFault
unpack_fault [] = Some NoLength
unpack_fault (stated ∷ words) =
    if eqb (length words) (words_for stated)
    then (if all_zero (drop stated (bytes_in words))
    then (if is_utf8 (take stated (bytes_in words)) then None else Some Utf8)
    else Some Padding)
    else Some (Length stated (length words))

-- the table is the text's
pub record IsUnpacked (table text : List ℕ) : Type 0 where
  pub utf8 : IsUtf8 text
  pub is : table ≡ packed text

-- a fault other than want of memory is the cause, and without a fault there is none
abbrev pub TellsCause : {T : Type 0} → Option UnpackFault → Result T UnpackFault → Type 0
TellsCause cause result = MatchResult result (λ _. cause ≡ None) (λ fault. (fault ≡ Memory) ⊎ (cause ≡ Some fault))
