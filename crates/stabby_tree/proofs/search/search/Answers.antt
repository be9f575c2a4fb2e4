use Rattle.std.proofs.Common.{rules, ◌≡◌, ◌+◌, ◌-◌, ◌/◌, ◌<◌, refl, ap, arith}
use Rattle.stabby_tree.proofs.Entered.{levels}
use Rattle.stabby_tree.proofs.search.search.Goals as goal

pub levels-smaller : goal.levels-smaller
levels-smaller g c =
    let deep = rw c.in-Below-default-Some.field-1-is at (c.in-Below-default-Some.ensures.spot.deep (g.P.Limit.limit / 2) _ c.node.invariant.0 refl) in
    let view = ap (λ d. d.1) c.node.view_is in
    let there = ap (λ d. d.1) c.deref-node.ensures in
    let falls : c.deref-node.result.now.1 < c.levels.node.now.1 = omega (arith, deep, view, there) in
    search rules

pub levels-preserved : goal.levels-preserved
levels-preserved g c =
    let deep = rw c.in-Below-default-Some.field-1-is at (c.in-Below-default-Some.ensures.spot.deep (g.P.Limit.limit / 2) _ c.node.invariant.0 refl) in
    let view = ap (λ d. d.1) c.node.view_is in
    let there = ap (λ d. d.1) c.deref-node.ensures in
    let below : c.levels.node.now.1 ≡ c.deref-node.result.now.1 + 1 = omega (arith, deep, view, there) in
    let more = levels (g.P.Limit.limit - 1) _ _ below in
    record { rises = search rules; same = search rules; sought = search rules; count = omega (arith, c.seek.ensures.count, c.levels.invariant.count, c.node.invariant.2, more) }
