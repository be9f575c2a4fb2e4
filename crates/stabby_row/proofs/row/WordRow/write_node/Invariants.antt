use Rattle.std.proofs.Common.{length, ◌-◌, ◌+◌, ◌≡◌, [], ◌∷◌, take}
use Rattle.stabby_row.specs.Seats.{view_of, IsSameSeat, with_claim}
use Rattle.stabby_row.proofs.row.WordRow.write_node.Given as goal

abbrev pub invariant-loop-i : goal.invariant-loop-i
invariant-loop-i l = IsSameSeat l.fn.seat l.seat × (l.seat.me ≡ (with_claim l.start (2 + length l.table) (0 ∷ length l.table ∷ take l.i l.table) (view_of l.fn.seat), []))

abbrev pub decreases-loop-i : goal.decreases-loop-i
decreases-loop-i l = length l.table - l.i
