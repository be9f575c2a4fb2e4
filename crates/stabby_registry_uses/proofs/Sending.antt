-- What a thread of two callers takes with it goes to another thread.
use Rattle.std.proofs.Common.{ℕ, List, [], ◌∷◌}
use mir.Syntax.{Ty}
use denote.RattleType.{RattleType}
use denote.Exit.{yes}
use denote.Ref.{NamedLft, ShrRef}
use denote.Param.{number, param, arg}
use denote.Param.Send.{IsSend, IsSync, arg_send, sendable}
use denote.Struct.Tuple.{TupleAt}
use Rattle.std.proofs.alloc.Global.TheSendSync as global
use Rattle.std.specs.contracts.alloc.Global as Global
use Rattle.stabby_cell.specs.contracts.pass.Pass as Pass
use Rattle.stabby_registry.specs.contracts.registry.VtBtree as VtBtree
use Rattle.stabby_registry.specs.contracts.catalog.Catalog as Catalog
use Rattle.stabby_registry.specs.contracts.catalog.CatalogChronicle.TheImpl as chronicle
use Rattle.stabby_word_table.specs.contracts.table.WordTable as WordTable
use Rattle.stabby_word_table.proofs.table.WordTable.TheSendSync as table
use Rattle.stabby_registry.proofs.Sending.{registry_sync, tree_pass_send}

-- a pass, and references to its registry, the handle, the allocator and a table
abbrev captures : NamedLft → NamedLft → NamedLft → NamedLft → RattleType → List RattleType
captures a b c d H = Pass.the_row (Catalog.the_row (number 5)) WordTable.the_row (chronicle.ghosts (number 5)) ∷ ShrRef a.mir a.lft (VtBtree.the_row (number 5)) ∷ ShrRef b.mir b.lft (param 0 H) ∷ ShrRef c.mir c.lft Global.the_row ∷ ShrRef d.mir d.lft WordTable.the_row ∷ []

captures_send : (ν : List ℕ) (a b c d : NamedLft) (H : RattleType) → IsSync (param 0 H) → IsSend (TupleAt ν (captures a b c d H))
captures_send ν a b c d H handle = search (sendable, tree_pass_send, registry_sync, table.the_sync, global.the_sync) depth 20

pub caller_send : (δ : Ty) (ν : List ℕ) (a b c d : NamedLft) (H : RattleType) → IsSync (param 0 H) → IsSend (arg δ yes (TupleAt ν (captures a b c d H)))
caller_send δ ν a b c d H handle = arg_send δ yes (TupleAt ν (captures a b c d H)) (captures_send ν a b c d H handle)
