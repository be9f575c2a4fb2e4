-- What a pass ends as, where a registry's turn is refused.
use Rattle.std.specs.Prelude.{ℕ, List, Result}
use Rattle.std.specs.Borrow.{Fml, RattleType, MutBor, RestsIfErr}
use Rattle.stabby_cell.specs.declared.chronicle.Chronicle.{Ghosts}
use Rattle.stabby_cell.specs.declared.pass.Pass.{Pass}
use Rattle.stabby_cell.specs.declared.turn.Busy.{Busy}
use Rattle.stabby_cell.specs.declared.turn.Turn.{Turn}
use Rattle.stabby_cell.specs.contracts.pass.Pass.{the_row as pass_row}
use Rattle.stabby_cell.specs.Turns.{lender_of}
use Rattle.stabby_tables.specs.Tables.{Table}
use Rattle.stabby_registry.specs.contracts.catalog.Catalog.{the_row as catalog_row}
use Rattle.stabby_word_table.specs.contracts.table.WordTable.{the_row as table_row}
use Rattle.stabby_registry.specs.declared.registry.VtBtree.{VtBtree}
use Rattle.stabby_registry.specs.Passes.{IsPassOf, MissedTurn}

module _ {size : ℕ} (N : RattleType) (g : Ghosts (List Table) Table) where
  -- where another pass held the turn, the borrowed pass has missed it and is still the registry's
  abbrev pub rests_if_busy : VtBtree size → MutBor (Pass (List Table) Table g) → Result (Turn (List Table) Table g) Busy → Fml
  rests_if_busy registry pass result = RestsIfErr (pass_row (catalog_row N) table_row g) pass lender_of result (λ p. IsPassOf registry p × MissedTurn pass.now p)
