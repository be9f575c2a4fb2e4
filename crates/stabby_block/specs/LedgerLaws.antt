-- What holds of each `Ledger`: its blocks are sound, and numbers from the next one on have none.
use Rattle.std.specs.Prelude.{◌≡◌, ℕ, Option, Some, None, is_some, unwrap_or, false}
use Rattle.std.specs.Option.{option_map}
use Rattle.std.specs.Ordering.{nat_cmp}
use Rattle.std.specs.BTreeMap.{get}
use Rattle.std.proofs.Common.{refl, sym, ap, ◌∙◌, subst, true≢false, arith}
use Rattle.stabby_block.specs.declared.ledger.Slot.{Slot}
use Rattle.stabby_block.specs.declared.ledger.Ledger.{Ledger}
use Rattle.stabby_block.specs.Blocks.{Held, IsSound, HasEnd}
use Rattle.stabby_block.specs.Ledgers.{ledger_blocks, slot_held}

slot_sound : (s : Slot) → IsSound (slot_held s)
slot_sound s = record {
  aligned = s.aligned;
  sized = sym s.bytes.ok.0 ∙ s.sized;
  size_fits = omega (arith, s.bytes.ok.1, s.bytes.small, s.sized);
  align_fits = s.align_fits;
}

sound_at : (o : Option Slot) (h : Held) → option_map slot_held o ≡ Some h → IsSound h
sound_at None h is = absurd (true≢false (ap is_some (sym is)))
sound_at (Some s) h is = subst IsSound (ap (λ o. unwrap_or o h) is) (slot_sound s)

pub ledger_sound : (l : Ledger) (n : ℕ) (h : Held) → ledger_blocks l n ≡ Some h → IsSound h
ledger_sound l n h is = sound_at (get nat_cmp l.slots n) h is

none_at : (o : Option Slot) → is_some o ≡ false → option_map slot_held o ≡ None
none_at None absent = refl
none_at (Some s) absent = absurd (true≢false absent)

pub ledger_finite : (l : Ledger) → HasEnd (ledger_blocks l)
ledger_finite l = record { end = l.next; none = λ n le. none_at (get nat_cmp l.slots n) (l.numbered n le) }
