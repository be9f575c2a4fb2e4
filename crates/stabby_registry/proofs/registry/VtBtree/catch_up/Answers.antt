use Rattle.stabby_cell.proofs.CallLemmas.{looked_once, looked_looked}
use Rattle.stabby_registry.proofs.registry.VtBtree.catch_up.Goals as goal

pub returns-in_err-known-clause-looked : goal.returns-in_err-known-clause-looked
returns-in_err-known-clause-looked g c = looked_looked _ _ _ (looked_once _ _ _ c.look.ensures.looked) c.snapshot.ensures.looked

pub returns-clause-looked : goal.returns-clause-looked
returns-clause-looked g c = looked_looked _ _ _ (looked_once _ _ _ c.look.ensures.looked) c.snapshot.ensures.looked
