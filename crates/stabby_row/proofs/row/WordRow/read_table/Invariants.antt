use Rattle.std.proofs.Common.{length, ◌-◌, ◌≡◌, ◌≤◌, take}
use Rattle.stabby_row.specs.Seats.{view_of, IsSameSeat, Stood}
use Rattle.stabby_row.proofs.row.WordRow.read_table.Given as goal

abbrev pub invariant-loop-i : goal.invariant-loop-i
invariant-loop-i l = IsSameSeat l.fn.seat l.seat × (l.seat.me ≡ l.fn.seat.me) × (l.i ≤ l.len)
    × ((s : Stood (view_of l.fn.seat) l.n l.at) × (l.len ≡ length s.node.table) × (l.table.items ≡ take l.i s.node.table))

abbrev pub decreases-loop-i : goal.decreases-loop-i
decreases-loop-i l = l.len - l.i
