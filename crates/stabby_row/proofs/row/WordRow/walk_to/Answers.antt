use Rattle.std.proofs.Common.{rules, arith, ◌+◌, refl}
use Rattle.stabby_row.specs.Seats.{view_of}
use Rattle.stabby_row.proofs.ViewLemmas.{later}
use Rattle.stabby_row.proofs.WalkLemmas.{moves_on, walk_more}
use Rattle.stabby_row.proofs.row.WordRow.walk_to.Goals.{then-n-seen, else-n-seen}
use Rattle.stabby_row.proofs.row.WordRow.walk_to.Goals as goal

pub links-preserved : goal.links-preserved
links-preserved c =
    let i = c.links.invariant in
    let step = c.link_word-next.ensures in
    let told = step.node (omega arith) in
    let low = i.low in
    let other = c.if-n-number.false in
    record {
      same = search rules;
      ready = step.same.1;
      at = moves_on _ _ _ told.3;
      seen = (let long = told.2 in let s = i.seen in let inside = i.at.inside in elim c.if-n-seen.branch [ then-n-seen w ↦ omega arith | else-n-seen w ↦ omega arith ]);
      view = walk_more (view_of c.args.seat.now) (view_of c.links.seat) (view_of c.link_word-next.new.seat) c.links.n 1 0 (c.links.n + 1) i.view told.0 refl;
      front = later _ _ _ told.1 i.front;
      low = omega arith;
    }
