use Rattle.std.proofs.Common.{length, take, ◌-◌, ◌≡◌, ◌≤◌}
use Rattle.stabby_row.specs.Rule.{StartsWith, Absent}
use Rattle.stabby_row.specs.Seats.{view_of, IsSameSeat, IsReady, Reached, after_walk}
use Rattle.stabby_row.proofs.row.WordRow.walk.Given as goal

abbrev pub invariant-links : goal.invariant-links
invariant-links l = record {
  same : IsSameSeat l.fn.seat l.seat;
  ready : IsReady l.seat;
  at : Reached (view_of l.seat) l.n l.at;
  seen : l.seen ≡ length (view_of l.seat).nodes;
  absent : Absent l.table (take l.n (view_of l.seat).nodes);
  view : view_of l.seat ≡ after_walk (l.n - l.fn.start) 0 (view_of l.seat).nodes (view_of l.fn.seat);
  front : StartsWith (view_of l.seat).nodes (view_of l.fn.seat).nodes;
  up : l.fn.start ≤ l.n;
}

abbrev pub decreases-links : goal.decreases-links
decreases-links l = (view_of l.seat).room - l.n
