use Rattle.stabby_tables.proofs.OneWorker.{one_worker}
use Rattle.stabby_tables.proofs.laws.one_worker_keeps_the_order.Goals as goal

pub returns : goal.returns
returns c = record { one_worker = one_worker }
