-- A pass goes to other threads, and a registry is shared by them: what a caller's `requires-send` and `requires-sync` goals ask.
-- The prover's own search for these goes down through the nodes of the tree, past its limits; so the nodes, the set, the
-- catalog, the pass and the registry have lemmas of their own. A caller cites `sending`.
use denote.RattleType.{RattleType}
use denote.Param.Send.{IsSend, IsSync, Frees, sendable}
use Rattle.core.specs.declared.alloc.Allocator as allocator
use Rattle.stabby_tree.specs.declared.node.Limit as limit
use Rattle.core.specs.declared.cmp.Ord as ord
use Rattle.core.specs.declared.cmp.PartialEq as eq
use Rattle.core.specs.declared.cmp.PartialOrd as partial
use Rattle.stabby_tree.specs.declared.keyed.Keyed as keyed
use Rattle.stabby_tree.specs.contracts.set.ArcBTreeSet as Set
use Rattle.std.specs.contracts.sync.Arc as Arc
use Rattle.core.specs.contracts.option.Option as Option
use Rattle.stabby_tree.specs.contracts.few.Few as Few
use Rattle.stabby_tree.specs.contracts.node.Item as Item
use Rattle.stabby_tree.specs.contracts.node.Node.TheKnot as Node
use Rattle.std.proofs.sync.Arc.TheSendSync as arc
use Rattle.std.proofs.alloc.Global.TheSendSync as global
use Rattle.std.below.std_heap.proofs.GlobalAllocator.TheSendSync as blocks
use Rattle.std.proofs.vec.Vec.TheSendSync as list
use Rattle.std.proofs.option.Option.TheSendSync as option
use Rattle.std.proofs.result.Result.TheSendSync as result
use Rattle.std.proofs.marker.PhantomData.TheSendSync as phantom
use Rattle.stabby_tree.proofs.few.Few.TheSendSync as few
use Rattle.stabby_tree.proofs.node.Item.TheSendSync as item
use Rattle.stabby_tree.proofs.node.Node.TheLaws.TheKnot as knot
use Rattle.stabby_word_table.proofs.numbered.Numbered.TheSendSync as numbered
use Rattle.stabby_word_table.proofs.table.WordTable.TheSendSync as table
use Rattle.stabby_registry.proofs.fault.RegistryFault.TheSendSync as fault
use Rattle.stabby_cell.proofs.cell.TurnCell.TheSendSync as cell
use Rattle.stabby_cell.proofs.pass.Pass.TheSendSync as pass
use Rattle.stabby_registry.specs.contracts.catalog.Catalog as Catalog
use Rattle.stabby_registry.specs.contracts.catalog.CatalogChronicle.TheImpl as chronicle
use Rattle.stabby_word_table.specs.contracts.table.WordTable as WordTable
use Rattle.stabby_registry.specs.contracts.worker.Job as Job
use Rattle.stabby_cell.specs.contracts.pass.Pass as Pass
use Rattle.stabby_registry.specs.contracts.registry.VtBtree as VtBtree

-- a node may go to other threads where its values and its allocator may
module _ (T A P : RattleType) (g : allocator.Ghosts A.Denot) (l : limit.Ghosts P.Denot) where
  entries_send : IsSend T → IsSync T → IsSend A → IsSync A → Frees {D = A.Denot} {G = allocator.Ghosts A.Denot} g g.dealloc_token → (h : RattleType) → IsSend h → IsSync h → IsSend (Few.the_row (Item.the_row h T A g) A g)
  entries_send s y sa ya f h sh yh = few.the_send (Item.the_row h T A g) A g (item.the_send h T A g sh s sa yh ya f) sa f

  entries_sync : IsSend T → IsSync T → IsSend A → IsSync A → Frees {D = A.Denot} {G = allocator.Ghosts A.Denot} g g.dealloc_token → (h : RattleType) → IsSend h → IsSync h → IsSync (Few.the_row (Item.the_row h T A g) A g)
  entries_sync s y sa ya f h sh yh = search (few.the_sync, item.the_sync) depth 20

  link_send : IsSend A → IsSync A → Frees {D = A.Denot} {G = allocator.Ghosts A.Denot} g g.dealloc_token → (h : RattleType) → IsSend h → IsSync h → IsSend (Option.the_row (Arc.the_row h A g))
  link_send sa ya f h sh yh = option.the_send (Arc.the_row h A g) (arc.the_send h A g sh sa yh ya f)

  link_sync : IsSend A → IsSync A → Frees {D = A.Denot} {G = allocator.Ghosts A.Denot} g g.dealloc_token → (h : RattleType) → IsSend h → IsSync h → IsSync (Option.the_row (Arc.the_row h A g))
  link_sync sa ya f h sh yh = search (option.the_sync, arc.the_sync) depth 20

  node_send : IsSend T → IsSync T → IsSend A → IsSync A → Frees {D = A.Denot} {G = allocator.Ghosts A.Denot} g g.dealloc_token → IsSend (Node.hole-Node T A P g l)
  node_send s y sa ya f = knot.both_send-Node T A P g l (entries_send s y sa ya f) (link_send sa ya f) (search (sendable, phantom.the_send) depth 20) (entries_sync s y sa ya f) (link_sync sa ya f) (search (sendable, phantom.the_sync) depth 20)

  node_sync : IsSend T → IsSync T → IsSend A → IsSync A → Frees {D = A.Denot} {G = allocator.Ghosts A.Denot} g g.dealloc_token → IsSync (Node.hole-Node T A P g l)
  node_sync s y sa ya f = knot.both_sync-Node T A P g l (entries_send s y sa ya f) (link_send sa ya f) (search (sendable, phantom.the_send) depth 20) (entries_sync s y sa ya f) (link_sync sa ya f) (search (sendable, phantom.the_sync) depth 20)

module _ (T A R L K : RattleType) (k : keyed.Ghosts T.Denot K.Denot) (o : ord.Ghosts K.Denot) (e : eq.Ghosts K.Denot) (p : partial.Ghosts K.Denot) (g : allocator.Ghosts A.Denot) where
  set_field_send : IsSend T → IsSync T → IsSend A → IsSync A → Frees {D = A.Denot} {G = allocator.Ghosts A.Denot} g g.dealloc_token → IsSend (Set.the_field T A R L K k o e p g).row
  set_field_send s y sa ya f = search (sendable, node_send, node_sync, arc.the_send) depth 20

  set_field_sync : IsSend T → IsSync T → IsSend A → IsSync A → Frees {D = A.Denot} {G = allocator.Ghosts A.Denot} g g.dealloc_token → IsSync (Set.the_field T A R L K k o e p g).row
  set_field_sync s y sa ya f = search (sendable, node_send, node_sync, arc.the_sync) depth 20

  set_send : IsSend T → IsSync T → IsSend A → IsSync A → Frees {D = A.Denot} {G = allocator.Ghosts A.Denot} g g.dealloc_token → IsSend (Set.the_row T A R L K k o e p g)
  set_send s y sa ya f = search (sendable, node_send, node_sync, arc.the_send) depth 20

  set_sync : IsSend T → IsSync T → IsSend A → IsSync A → Frees {D = A.Denot} {G = allocator.Ghosts A.Denot} g g.dealloc_token → IsSync (Set.the_row T A R L K k o e p g)
  set_sync s y sa ya f = search (sendable, node_send, node_sync, arc.the_sync) depth 20

ruleset of_catalog = (sendable, blocks.the_frees, set_field_send, set_field_sync, set_send, set_sync, global.the_send, global.the_sync, numbered.the_send, numbered.the_sync)

pub catalog_field_send : (N : RattleType) → IsSend (Catalog.the_field N).row
catalog_field_send N = search of_catalog depth 20

pub catalog_field_sync : (N : RattleType) → IsSync (Catalog.the_field N).row
catalog_field_sync N = search of_catalog depth 20

pub catalog_send : (N : RattleType) → IsSend (Catalog.the_row N)
catalog_send N = search of_catalog depth 20

pub catalog_sync : (N : RattleType) → IsSync (Catalog.the_row N)
catalog_sync N = search of_catalog depth 20

ruleset of_passes = (sendable, blocks.the_frees, catalog_send, catalog_sync, pass.the_send, pass.the_field_send, cell.the_send, cell.the_field_send, cell.the_sync, cell.the_field_sync, option.the_send, option.the_sync, global.the_send, global.the_sync, table.the_send, table.the_sync)

pub tree_pass_field_send : (N : RattleType) → IsSend (Pass.the_field (Catalog.the_row N) WordTable.the_row (chronicle.ghosts N)).row
tree_pass_field_send N = search of_passes depth 20

pub tree_pass_send : (N : RattleType) → IsSend (Pass.the_row (Catalog.the_row N) WordTable.the_row (chronicle.ghosts N))
tree_pass_send N = search of_passes depth 20

pub registry_field_send : (N : RattleType) → IsSend (VtBtree.the_field N).row
registry_field_send N = search of_passes depth 20

pub registry_send : (N : RattleType) → IsSend (VtBtree.the_row N)
registry_send N = search of_passes depth 20

pub registry_field_sync : (N : RattleType) → IsSync (VtBtree.the_field N).row
registry_field_sync N = search of_passes depth 20

pub registry_sync : (N : RattleType) → IsSync (VtBtree.the_row N)
registry_sync N = search of_passes depth 20

-- for what a caller's threads hold of a registry, and what they answer
pub ruleset sending = (sendable, catalog_field_send, catalog_send, catalog_field_sync, catalog_sync, tree_pass_field_send, tree_pass_send, registry_field_send, registry_send, registry_field_sync, registry_sync, fault.the_send, fault.the_sync, table.the_send, table.the_sync, result.the_send, result.the_sync, option.the_send, option.the_sync, list.the_send, list.the_sync, global.the_send, global.the_sync)

pub job_field_send : IsSend Job.the_field.row
job_field_send = search (sending, blocks.the_frees) depth 20

pub job_send : IsSend Job.the_row
job_send = search (sending, blocks.the_frees) depth 20
