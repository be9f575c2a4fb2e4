use Rattle.stabby_host.proofs.PluginLemmas.{live_is}
use Rattle.stabby_host.specs.Hosts.{plugins_of}
use Rattle.stabby_host.proofs.host.Host.bound.Goals as goal

pub returns-in-Ok-clause-live : goal.returns-in-Ok-clause-live
returns-in-Ok-clause-live g c = let host = c.args.self.now in
    λ n m p at has. live_is (plugins_of host) m (host.bound_to_live n m p at has)

pub returns-in-Err-clause-live : goal.returns-in-Err-clause-live
returns-in-Err-clause-live g c = let host = c.args.self.now in
    λ n m p at has. live_is (plugins_of host) m (host.bound_to_live n m p at has)
