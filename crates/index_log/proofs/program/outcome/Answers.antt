use Rattle.std.proofs.Common.{refl}
use Rattle.index_log.specs.declared.status.Status.TheVariants.{Usage}
use Rattle.index_log.specs.Runs.{UsageRun, run_of}
use Rattle.index_log.proofs.Endings.{comes}
use Rattle.index_log.proofs.program.outcome.Goals as goal

pub returns-in-Some-clause-comes : goal.returns-in-Some-clause-comes
returns-in-Some-clause-comes g c = comes _ _ c.obey_input.ensures

pub returns-in-None-clause-says : goal.returns-in-None-clause-says
returns-in-None-clause-says g c = record { no_keep = c.in-None.ensures.none refl; unread = refl; untouched = refl; no_read_failed = refl; no_write_failed = refl }

pub returns-in-None-clause-comes : goal.returns-in-None-clause-comes
returns-in-None-clause-comes g c =
    let says : UsageRun (run_of g.S.Source g.K.Sink c.args.words.now c.args.source.now c.args.source.now c.args.out.now c.args.out.now) = returns-in-None-clause-says g c in
    comes _ Usage says
