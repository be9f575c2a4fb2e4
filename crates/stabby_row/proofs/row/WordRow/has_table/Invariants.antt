use Rattle.std.proofs.Common.{length, ◌-◌, ◌≡◌, ℕ, ◌<◌, slice_index}
use Rattle.stabby_row.specs.Seats.{view_of, IsSameSeat, Stood}
use Rattle.stabby_row.proofs.row.WordRow.has_table.Given as goal

abbrev pub invariant-loop-i : goal.invariant-loop-i
invariant-loop-i l = IsSameSeat l.fn.seat l.seat × (l.seat.me ≡ l.fn.seat.me)
    × ((s : Stood (view_of l.fn.seat) l.n l.at) × (length l.table ≡ length s.node.table) × ((k : ℕ) → k < l.i → slice_index l.table k ≡ slice_index s.node.table k))

abbrev pub decreases-loop-i : goal.decreases-loop-i
decreases-loop-i l = length l.table - l.i
