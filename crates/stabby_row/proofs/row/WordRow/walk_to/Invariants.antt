use Rattle.std.proofs.Common.{length, ◌-◌, ◌≡◌, ◌≤◌}
use Rattle.stabby_row.specs.Rule.{StartsWith}
use Rattle.stabby_row.specs.Seats.{view_of, IsSameSeat, IsReady, Reached, after_walk}
use Rattle.stabby_row.proofs.row.WordRow.walk_to.Given as goal

abbrev pub invariant-links : goal.invariant-links
invariant-links l = record {
  same : IsSameSeat l.fn.seat l.seat;
  ready : IsReady l.seat;
  at : Reached (view_of l.seat) l.n l.at;
  seen : l.seen ≡ length (view_of l.seat).nodes;
  view : view_of l.seat ≡ after_walk l.n 0 (view_of l.seat).nodes (view_of l.fn.seat);
  front : StartsWith (view_of l.seat).nodes (view_of l.fn.seat).nodes;
  low : l.n ≤ l.number;
}

abbrev pub decreases-links : goal.decreases-links
decreases-links l = (view_of l.seat).room - l.n
