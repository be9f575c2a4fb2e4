-- The parts of a `SingleOrVec`, once its items were lent. No public clause cites this module.
use Rattle.std.specs.Prelude.{List}
use Rattle.std.specs.Borrow.{Lends, Fml, RattleType, MutBor, Array}
use Rattle.std.specs.declared.alloc.Allocator.{Ghosts}
use Rattle.stabby_vec.specs.Sequence.{Sequence, with_items}
use Rattle.stabby_vec.specs.Inside.SingleForm.{slot_with_items}
use Rattle.stabby_vec.specs.declared.single.parts.Parts.{Parts}
use Rattle.stabby_vec.specs.declared.single.parts.Slot.{Slot}
use Rattle.stabby_vec.specs.declared.single.parts.Slot.TheVariants.{Filled, Vacant}
use Rattle.stabby_vec.specs.contracts.single.parts.Slot as slot
use Rattle.stabby_vec.specs.contracts.single.parts.Parts as parts

module _ {T A : Type 0} where
  abbrev changed : Slot T → Sequence T → List T → Parts T A
  changed (Filled one) list xs = record { slot = slot_with_items (Filled one) xs; list = list }
  changed Vacant list xs = record { slot = Vacant; list = with_items list xs }

  -- the part that holds the items has those of xs
  abbrev pub parts_with_items : Parts T A → List T → Parts T A
  parts_with_items p = changed p.slot p.list

module _ (T : RattleType) (s : MutBor (slot.the_row T).Denot) where
  abbrev pub slot_lends : MutBor (List T.Denot) → Fml
  slot_lends r = Lends (slot.the_row T) (Array T 0) s r (slot_with_items s.now)

module _ (T A : RattleType) (alloc : Ghosts A.Denot) (p : MutBor (parts.the_row T A alloc).Denot) where
  abbrev pub parts_lend : MutBor (List T.Denot) → Fml
  parts_lend r = Lends (parts.the_row T A alloc) (Array T 0) p r (parts_with_items p.now)
