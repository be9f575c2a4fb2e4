use Rattle.std.proofs.Common.{rules, ◌/◌, ◌<◌, refl, ap, arith}
use Rattle.stabby_tree.proofs.search.look_up.Goals as goal

pub levels-smaller : goal.levels-smaller
levels-smaller g c =
    let deep = rw c.in-Below-default-Some.field-1-is at (c.in-Below-default-Some.ensures.spot.deep (g.P.Limit.limit / 2) _ c.node.invariant.0 refl) in
    let view = ap (λ d. d.1) c.node.view_is in
    let there = ap (λ d. d.1) c.deref-node.ensures in
    let falls : c.deref-node.result.now.1 < c.levels.node.now.1 = omega (arith, deep, view, there) in
    search rules
