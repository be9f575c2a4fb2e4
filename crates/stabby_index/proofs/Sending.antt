-- An index is shared by threads, and its passes go to them. The prover's own search for these goes down through the nodes of
-- the maps, past its limits; so the nodes, the sets, the maps and what they hold have lemmas of their own.
use denote.RattleType.{RattleType}
use denote.Param.{param, number}
use denote.Param.Send.{IsSend, IsSync, Frees, sendable}
use Rattle.core.specs.declared.alloc.Allocator as allocator
use Rattle.stabby_tree.specs.declared.node.Limit as limit
use Rattle.core.specs.declared.cmp.Ord as ord
use Rattle.core.specs.declared.cmp.PartialEq as eq
use Rattle.core.specs.declared.cmp.PartialOrd as partial
use Rattle.stabby_tree.specs.declared.keyed.Keyed as keyed
use Rattle.stabby_tree.specs.contracts.set.ArcBTreeSet as Set
use Rattle.std.specs.contracts.sync.Arc as Arc
use Rattle.core.specs.contracts.option.Option as Option
use Rattle.stabby_tree.specs.contracts.few.Few as Few
use Rattle.stabby_tree.specs.contracts.node.Item as Item
use Rattle.stabby_tree.specs.contracts.node.Node.TheKnot as Node
use Rattle.std.proofs.sync.Arc.TheSendSync as arc
use Rattle.std.proofs.alloc.Global.TheSendSync as global
use Rattle.std.below.std_heap.proofs.GlobalAllocator.TheSendSync as blocks
use Rattle.std.proofs.vec.Vec.TheSendSync as list
use Rattle.std.proofs.option.Option.TheSendSync as option
use Rattle.std.proofs.marker.PhantomData.TheSendSync as phantom
use Rattle.stabby_tree.proofs.few.Few.TheSendSync as few
use Rattle.stabby_tree.proofs.node.Item.TheSendSync as item
use Rattle.stabby_tree.proofs.node.SplitAt.TheSendSync as split
use Rattle.stabby_tree.proofs.node.Node.TheLaws.TheKnot as knot
use Rattle.stabby_tree.proofs.entry.Entry.TheSendSync as entry
use Rattle.stabby_cell.proofs.cell.TurnCell.TheSendSync as cell
use Rattle.stabby_cell.proofs.pass.Pass.TheSendSync as pass
use Rattle.stabby_index.proofs.row.Row.TheSendSync as row
use Rattle.stabby_index.specs.contracts.slot.Slot as Slot
use Rattle.stabby_index.specs.contracts.keys.Keys as Keys
use Rattle.stabby_index.specs.contracts.view.View as View
use Rattle.stabby_index.specs.contracts.changes.KeptChange as KeptChange
use Rattle.stabby_index.specs.contracts.changes.Changes as Changes
use Rattle.stabby_index.specs.contracts.version.Version as Version
use Rattle.stabby_index.specs.contracts.index.Index as Index

-- a node may go to other threads where its values and its allocator may
module _ (T A P : RattleType) (g : allocator.Ghosts A.Denot) (l : limit.Ghosts P.Denot) where
  entries_send : IsSend T → IsSync T → IsSend A → IsSync A → Frees {D = A.Denot} {G = allocator.Ghosts A.Denot} g g.dealloc_token → (h : RattleType) → IsSend h → IsSync h → IsSend (Few.the_row (Item.the_row h T A g) A g)
  entries_send s y sa ya f h sh yh = few.the_send (Item.the_row h T A g) A g (item.the_send h T A g sh s sa yh ya f) sa f

  entries_sync : IsSend T → IsSync T → IsSend A → IsSync A → Frees {D = A.Denot} {G = allocator.Ghosts A.Denot} g g.dealloc_token → (h : RattleType) → IsSend h → IsSync h → IsSync (Few.the_row (Item.the_row h T A g) A g)
  entries_sync s y sa ya f h sh yh = search (few.the_sync, item.the_sync) depth 20

  link_send : IsSend A → IsSync A → Frees {D = A.Denot} {G = allocator.Ghosts A.Denot} g g.dealloc_token → (h : RattleType) → IsSend h → IsSync h → IsSend (Option.the_row (Arc.the_row h A g))
  link_send sa ya f h sh yh = option.the_send (Arc.the_row h A g) (arc.the_send h A g sh sa yh ya f)

  link_sync : IsSend A → IsSync A → Frees {D = A.Denot} {G = allocator.Ghosts A.Denot} g g.dealloc_token → (h : RattleType) → IsSend h → IsSync h → IsSync (Option.the_row (Arc.the_row h A g))
  link_sync sa ya f h sh yh = search (option.the_sync, arc.the_sync) depth 20

  node_send : IsSend T → IsSync T → IsSend A → IsSync A → Frees {D = A.Denot} {G = allocator.Ghosts A.Denot} g g.dealloc_token → IsSend (Node.hole-Node T A P g l)
  node_send s y sa ya f = knot.both_send-Node T A P g l (entries_send s y sa ya f) (link_send sa ya f) (search (sendable, phantom.the_send) depth 20) (entries_sync s y sa ya f) (link_sync sa ya f) (search (sendable, phantom.the_sync) depth 20)

  node_sync : IsSend T → IsSync T → IsSend A → IsSync A → Frees {D = A.Denot} {G = allocator.Ghosts A.Denot} g g.dealloc_token → IsSync (Node.hole-Node T A P g l)
  node_sync s y sa ya f = knot.both_sync-Node T A P g l (entries_send s y sa ya f) (link_send sa ya f) (search (sendable, phantom.the_send) depth 20) (entries_sync s y sa ya f) (link_sync sa ya f) (search (sendable, phantom.the_sync) depth 20)

module _ (T A R L K : RattleType) (k : keyed.Ghosts T.Denot K.Denot) (o : ord.Ghosts K.Denot) (e : eq.Ghosts K.Denot) (p : partial.Ghosts K.Denot) (g : allocator.Ghosts A.Denot) where
  set_field_send : IsSend T → IsSync T → IsSend A → IsSync A → Frees {D = A.Denot} {G = allocator.Ghosts A.Denot} g g.dealloc_token → IsSend (Set.the_field T A R L K k o e p g).row
  set_field_send s y sa ya f = search (sendable, node_send, node_sync, arc.the_send) depth 20

  set_field_sync : IsSend T → IsSync T → IsSend A → IsSync A → Frees {D = A.Denot} {G = allocator.Ghosts A.Denot} g g.dealloc_token → IsSync (Set.the_field T A R L K k o e p g).row
  set_field_sync s y sa ya f = search (sendable, node_send, node_sync, arc.the_sync) depth 20

  set_send : IsSend T → IsSync T → IsSend A → IsSync A → Frees {D = A.Denot} {G = allocator.Ghosts A.Denot} g g.dealloc_token → IsSend (Set.the_row T A R L K k o e p g)
  set_send s y sa ya f = search (sendable, node_send, node_sync, arc.the_send) depth 20

  set_sync : IsSend T → IsSync T → IsSend A → IsSync A → Frees {D = A.Denot} {G = allocator.Ghosts A.Denot} g g.dealloc_token → IsSync (Set.the_row T A R L K k o e p g)
  set_sync s y sa ya f = search (sendable, node_send, node_sync, arc.the_sync) depth 20

ruleset of_shared = (sendable, blocks.the_frees, row.the_send, row.the_sync, arc.the_send, arc.the_sync, option.the_send, option.the_sync, list.the_send, list.the_sync, global.the_send, global.the_sync)

slot_send : IsSend Slot.the_row
slot_send = search of_shared depth 20

slot_sync : IsSync Slot.the_row
slot_sync = search of_shared depth 20

change_send : IsSend KeptChange.the_row
change_send = search of_shared depth 20

change_sync : IsSync KeptChange.the_row
change_sync = search of_shared depth 20

pub changes_send : IsSend Changes.the_row
changes_send = search (of_shared, change_send) depth 20

pub changes_sync : IsSync Changes.the_row
changes_sync = search (of_shared, change_sync) depth 20

ruleset of_sets = (sendable, blocks.the_frees, set_field_send, set_field_sync, set_send, set_sync, entry.the_send, entry.the_sync, global.the_send, global.the_sync)

keys_send : IsSend Keys.the_row
keys_send = search of_sets depth 20

keys_sync : IsSync Keys.the_row
keys_sync = search of_sets depth 20

view_send : IsSend View.the_row
view_send = search (of_sets, slot_send, slot_sync, keys_send, keys_sync) depth 30

view_sync : IsSync View.the_row
view_sync = search (of_sets, slot_send, slot_sync, keys_send, keys_sync) depth 30

pub version_send : IsSend Version.the_row
version_send = search (sendable, view_send, changes_send) depth 20

pub version_sync : IsSync Version.the_row
version_sync = search (sendable, view_sync, changes_sync) depth 20

pub ruleset of_index = (sendable, version_send, version_sync, changes_send, changes_sync, pass.the_send, pass.the_field_send, cell.the_send, cell.the_sync, cell.the_field_send, cell.the_field_sync)

pub index_send : IsSend Index.the_row
index_send = search of_index depth 20

pub index_sync : IsSync Index.the_row
index_sync = search of_index depth 20
