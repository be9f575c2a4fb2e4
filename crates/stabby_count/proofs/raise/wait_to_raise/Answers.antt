use Rattle.std.proofs.Common.{rules, arith}
use Rattle.std.proofs.lemmas.Grind.{common_steps}
use Rattle.stabby_count.proofs.Kept.{keeps_look}
use Rattle.stabby_count.proofs.Looks.{looks_first, looks_more, never_moves}
use Rattle.stabby_count.proofs.Raises.{may_look}
use Rattle.stabby_count.proofs.raise.wait_to_raise.Goals as goal

pub give_back-found-requires-clause-view : goal.give_back-found-requires-clause-view
give_back-found-requires-clause-view g c = keeps_look _ _

pub give_back-found-requires-clause-kind : goal.give_back-found-requires-clause-kind
give_back-found-requires-clause-kind g c = may_look c.args.raise _ (search rules)

pub loop-preserved : goal.loop-preserved
loop-preserved g c = (
  tt,
  tt,
  (grind (arith, common_steps)),
  (search rules),
  (grind (arith, common_steps)),
  (grind (arith, common_steps)),
  (λ before looks. looks_more before c.loop.share.view c.raise_from.new.share.view c.loop.found c.in-Err.word (c.loop.invariant.6 before looks) (grind (arith, common_steps)) (grind (arith, common_steps))),
  λ h. absurd (never_moves c.give_back-found.new.self.view c.loop.share.view c.loop.found c.in-Err.word (λ k. (c.loop.invariant.7 k).0) (grind (arith, common_steps)) (grind (arith, common_steps)) (grind (arith, common_steps)) h),
)

pub returns-in-Ok-clause-raised : goal.returns-in-Ok-clause-raised
returns-in-Ok-clause-raised g c = (
  c.loop.found,
  c.loop.share.view,
  (search rules),
  c.loop.invariant.6 c.args.share.now.view (looks_first c.args.share.now.view c.give_back-found.new.self.view c.give_back-found.result (search rules) (search rules)),
  (search rules),
)
