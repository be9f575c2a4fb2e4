-- What a thread that inserts into a tree takes with it goes to another thread.
use Rattle.std.proofs.Common.{ℕ, List, [], ◌∷◌}
use mir.Syntax.{Ty}
use denote.RattleType.{RattleType}
use denote.Exit.{yes}
use denote.Ref.{NamedLft, ShrRef}
use denote.Param.{number, param, arg}
use denote.Param.Send.{IsSend, IsSync, arg_send, sendable}
use denote.Struct.Field.{shr_slice_field, u64-field}
use denote.Struct.Tuple.{TupleAt}
use Rattle.std.proofs.alloc.Global.TheSendSync as global
use Rattle.std.specs.contracts.alloc.Global as Global
use Rattle.stabby_registry.below.stabby_cell.specs.contracts.pass.Pass as Pass
use Rattle.stabby_registry.specs.contracts.registry.VtBtree as VtBtree
use Rattle.stabby_registry.specs.contracts.catalog.Catalog as Catalog
use Rattle.stabby_registry.specs.contracts.catalog.CatalogChronicle.TheImpl as chronicle
use Rattle.stabby_word_table.specs.contracts.table.WordTable as WordTable
use Rattle.stabby_word_table.proofs.table.WordTable.TheSendSync as table
use Rattle.stabby_registry.proofs.Sending.{registry_sync, tree_pass_send}

-- the handle, the allocator, the registry, a pass of it, the tables, and numbers
abbrev captures : NamedLft → NamedLft → NamedLft → NamedLft → RattleType → List RattleType → List RattleType
captures a b c d H numbers = ShrRef a.mir a.lft (param 0 H) ∷ ShrRef b.mir b.lft Global.the_row ∷ ShrRef c.mir c.lft (VtBtree.the_row (number 5)) ∷ Pass.the_row (Catalog.the_row (number 5)) WordTable.the_row (chronicle.ghosts (number 5)) ∷ (shr_slice_field d WordTable.the_row tt).row ∷ numbers

abbrev one : NamedLft → List RattleType
one e = ShrRef e.mir e.lft u64-field.row ∷ []

abbrev two : NamedLft → NamedLft → List RattleType
two e f = ShrRef e.mir e.lft u64-field.row ∷ ShrRef f.mir f.lft u64-field.row ∷ []

ruleset held = (sendable, tree_pass_send, registry_sync, table.the_sync, global.the_sync)

share_captures : (ν : List ℕ) (a b c d e f : NamedLft) (H : RattleType) → IsSync (param 0 H) → IsSend (TupleAt ν (captures a b c d H (two e f)))
share_captures ν a b c d e f H handle = search held depth 20

half_captures : (ν : List ℕ) (a b c d e : NamedLft) (H : RattleType) → IsSync (param 0 H) → IsSend (TupleAt ν (captures a b c d H (one e)))
half_captures ν a b c d e H handle = search held depth 20

-- a thread with a share of the tables
pub share_send : (δ : Ty) (ν : List ℕ) (a b c d e f : NamedLft) (H : RattleType) → IsSync (param 0 H) → IsSend (arg δ yes (TupleAt ν (captures a b c d H (two e f))))
share_send δ ν a b c d e f H handle = arg_send δ yes (TupleAt ν (captures a b c d H (two e f))) (share_captures ν a b c d e f H handle)

-- a thread that starts another one
pub half_send : (δ : Ty) (ν : List ℕ) (a b c d e : NamedLft) (H : RattleType) → IsSync (param 0 H) → IsSend (arg δ yes (TupleAt ν (captures a b c d H (one e))))
half_send δ ν a b c d e H handle = arg_send δ yes (TupleAt ν (captures a b c d H (one e))) (half_captures ν a b c d e H handle)
