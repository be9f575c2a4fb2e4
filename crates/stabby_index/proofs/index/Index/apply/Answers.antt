use Rattle.stabby_index.proofs.VersionLemmas.{applied_after_look, refused_after_look}
use Rattle.stabby_index.proofs.index.Index.apply.Goals as goal

pub returns-clause-applied : goal.returns-clause-applied
returns-clause-applied g c = applied_after_look _ _ _ _ c.args.changes.now c.args.expect c.offer.result c.in_ok-next.ensures.looked c.in_ok-next.ensures.changes c.offer.ensures.applied

pub returns-clause-looked : goal.returns-clause-looked
returns-clause-looked g c = refused_after_look _ _ _ c.offer.result c.in_ok-next.ensures.looked c.offer.ensures.looked
