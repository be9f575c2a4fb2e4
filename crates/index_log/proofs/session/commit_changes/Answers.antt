use Rattle.std.proofs.Common.{◌∙◌}
use Rattle.index_log.proofs.Whole.{applied_front, applied_weight, applied_stamp}
use Rattle.index_log.proofs.session.commit_changes.Goals as goal

pub returns-in-Ok-clause-whole : goal.returns-in-Ok-clause-whole
returns-in-Ok-clause-whole g c = applied_weight _ _ _ _ _ c.in-Ok.ensures.applied ∙ c.requires.whole

pub returns-in-Ok-clause-front : goal.returns-in-Ok-clause-front
returns-in-Ok-clause-front g c = applied_front c.args.index.now.cell _ _ _ _ _ c.requires.own c.in-Ok.ensures.pass c.requires.whole c.in-Ok.ensures.applied

pub returns-in-Ok-clause-stamp : goal.returns-in-Ok-clause-stamp
returns-in-Ok-clause-stamp g c = applied_stamp c.args.index.now.cell _ _ _ _ _ c.requires.own c.in-Ok.ensures.pass c.requires.whole c.in-Ok.ensures.applied
