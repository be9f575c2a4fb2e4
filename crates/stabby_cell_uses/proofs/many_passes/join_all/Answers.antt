use Rattle.std.proofs.Common.{rules, ◌≡◌, []}
use Rattle.stabby_cell_uses.proofs.JoinLemmas.{joined_none, part_is_own, joined_more, joined_fronts}
use Rattle.stabby_cell_uses.proofs.many_passes.join_all.Goals as goal

pub loop-part-init : goal.loop-part-init
loop-part-init c = joined_none _ _ _ c.requires.parts c.requires.last

pub join-requires-clause-own : goal.join-requires-clause-own
join-requires-clause-own c = part_is_own _ _ _ _ _ _ _ c.loop-part.invariant c.in-Some.ensures.items

pub loop-part-preserved : goal.loop-part-preserved
loop-part-preserved c = joined_more _ _ _ _ _ _ _ _ c.loop-part.invariant c.in-Some.ensures.items c.join.ensures.pass c.join.ensures.joined c.join.ensures.first c.join.ensures.second

pub returns-clause-fronts : goal.returns-clause-fronts
returns-clause-fronts c = let none : c.loop-part.parts.items ≡ [] = search rules in joined_fronts _ _ _ _ _ c.loop-part.invariant none
