-- The statements of the crate's laws.
use Rattle.std.specs.Prelude.{◌≡◌, ◌↔◌, ◌<◌, ◌^◌, ℕ, List, None, slice_index}
use Rattle.std.specs.Str.{IsUtf8}
use mathlib.Core.List.{IsPrefix}
use Rattle.stabby_tables.specs.Tables.{Table}
use Rattle.stabby_tables.specs.Lists.{IsDistinct}
use Rattle.stabby_symbol.specs.Packed.{packed}
use Rattle.stabby_symbol.specs.Unpacked.{unpack_fault, IsUnpacked}
use Rattle.stabby_symbol.specs.Symbols.{IsText, IsTextFault}
use Rattle.stabby_symbol.specs.declared.unpacking.UnpackFault.{UnpackFault}
use Rattle.stabby_symbol.specs.declared.unpacking.UnpackFault.TheVariants.{Memory}

-- texts with one table are one text
abbrev pub DifferentTextsDiffer : Type 0
DifferentTextsDiffer = (s t : List ℕ) → IsUtf8 s → IsUtf8 t → packed s ≡ packed t → s ≡ t

-- a table of words has no fault exactly where it is a text's
abbrev pub UnpackedIsPacked : Type 0
UnpackedIsPacked = (table : List ℕ) → ((i : ℕ) → slice_index table i < 2 ^ 64) → (unpack_fault table ≡ None) ↔ ((text : List ℕ) × IsUnpacked table text)

-- Numbers of texts: in fronts that are prefixes of one list, they are equal exactly where the texts are; in each later front
-- a number's text is the one that it was given to, and reads back.
pub record TextsAgree : Type 0 where
  pub numbers : (one other both : List Table) (s t : List ℕ) (n m : ℕ) → IsPrefix one both → IsPrefix other both → IsDistinct both
      → IsText one s n → IsText other t m → (n ≡ m) ↔ (s ≡ t)
  pub kept : (front later : List Table) (s t : List ℕ) (n : ℕ) → IsPrefix front later → IsText front s n → IsText later t n → s ≡ t
  pub no_fault : (front later : List Table) (s : List ℕ) (n : ℕ) (fault : UnpackFault) → IsPrefix front later
      → IsText front s n → IsTextFault later n fault → fault ≡ Memory
