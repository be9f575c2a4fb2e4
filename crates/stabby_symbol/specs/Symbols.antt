-- What calls say of the texts of a registry.
use Rattle.std.specs.Prelude.{◌≡◌, ◌⊎◌, ℕ, List, Some, Result, Err}
use Rattle.std.specs.Str.{IsUtf8}
use Rattle.stabby_cell.specs.declared.chronicle.Chronicle.{Ghosts}
use Rattle.stabby_cell.specs.declared.pass.Pass.{Pass}
use Rattle.stabby_tables.specs.Tables.{Table}
use Rattle.stabby_registry.specs.declared.fault.TryFault.{TryFault}
use Rattle.stabby_registry.specs.declared.fault.TryFault.TheVariants as try
use Rattle.stabby_registry.specs.Passes.{AddedNoCommit}
use Rattle.stabby_registry.specs.Inserts.{IsNumber, IsFull}
use Rattle.stabby_registry.specs.Tries.{HasTriedInsert}
use Rattle.stabby_symbol.specs.Packed.{packed}
use Rattle.stabby_symbol.specs.Unpacked.{unpack_fault}
use Rattle.stabby_symbol.specs.declared.interning.SymbolFault.{SymbolFault}
use Rattle.stabby_symbol.specs.declared.interning.SymbolFault.TheVariants.{Full, Memory}
use Rattle.stabby_symbol.specs.declared.unpacking.UnpackFault.{UnpackFault}
use Rattle.stabby_symbol.specs.declared.unpacking.UnpackFault.TheVariants as unpack

-- the list has the text's table at place n
pub record IsText (front : List Table) (text : List ℕ) (n : ℕ) : Type 0 where
  pub utf8 : IsUtf8 text
  pub number : IsNumber front (packed text) n

-- the table at place n is no text's, for this cause; or memory was wanting
abbrev pub IsTextFault : List Table → ℕ → UnpackFault → Type 0
IsTextFault front n fault = (fault ≡ unpack.Memory) ⊎ ((table : Table) × IsNumber front table n × (unpack_fault table ≡ Some fault))

module _ {g : Ghosts (List Table) Table} where
  -- why a text was not interned, and what stands
  abbrev pub IsSymbolFault : Pass (List Table) Table g → Pass (List Table) Table g → Table → SymbolFault → Type 0
  IsSymbolFault p q t (Full front) = IsFull p q t front
  IsSymbolFault p q t Memory = AddedNoCommit p q

  -- the steps of one try; none where the text's table found no memory
  abbrev pub HasTriedText : Pass (List Table) Table g → Pass (List Table) Table g → Result ℕ TryFault → Type 0
  HasTriedText p q result = HasTriedInsert p q result ⊎ ((result ≡ Err try.Memory) × (q ≡ p))
