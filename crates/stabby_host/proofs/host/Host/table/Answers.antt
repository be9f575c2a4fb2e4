use Rattle.stabby_host.proofs.PluginLemmas.{one_number}
use Rattle.stabby_host.specs.Hosts.{plugins_of, tables_of}
use Rattle.stabby_host.proofs.host.Host.table.Goals as goal

pub returns-in-Ok-clause-same : goal.returns-in-Ok-clause-same
returns-in-Ok-clause-same g c = let host = c.args.self.now in
    λ n m p q at there. one_number (tables_of host) (plugins_of host) n m p q host.shelf.distinct host.numbered at there

pub returns-in-Err-clause-same : goal.returns-in-Err-clause-same
returns-in-Err-clause-same g c = let host = c.args.self.now in
    λ n m p q at there. one_number (tables_of host) (plugins_of host) n m p q host.shelf.distinct host.numbered at there
