use Rattle.std.proofs.Common.{length, ◌-◌, ◌+◌, ◌≡◌, ◌≤◌}
use Rattle.stabby_row.specs.Rule.{Absent}
use Rattle.stabby_row.specs.Seats.{view_of, IsSameSeat, IsReady, Reached, Moved, claim_with, node_words}
use Rattle.stabby_row.proofs.row.WordRow.hang_last.Given as goal

abbrev pub invariant-tries : goal.invariant-tries
invariant-tries l = record {
  same : IsSameSeat l.fn.seat l.seat;
  ready : IsReady l.seat;
  at : Reached (view_of l.seat) l.n l.at × (l.n ≡ length (view_of l.seat).nodes);
  claim : (view_of l.seat).claim ≡ claim_with l.start (2 + length l.table) (node_words l.table);
  absent : Absent l.table (view_of l.seat).nodes;
  up : l.fn.count ≤ l.n;
  moved : Moved (l.n - l.fn.count) (view_of l.fn.seat) (view_of l.seat);
}

abbrev pub decreases-tries : goal.decreases-tries
decreases-tries l = (view_of l.seat).room - l.n
