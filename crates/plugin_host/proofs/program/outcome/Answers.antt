use Rattle.std.proofs.Common.{◌≡◌, ◌<◌, length, refl, arith}
use Rattle.std.proofs.lemmas.Bool.Decides.{nat_tests}
use Rattle.plugin_host.proofs.Endings.{comes}
use Rattle.plugin_host.proofs.Words.{no_words, some_words}
use Rattle.plugin_host.specs.Runs.{UsageRun, run_of}
use Rattle.plugin_host.specs.declared.status.Status.TheVariants.{Usage}
use Rattle.plugin_host.proofs.program.outcome.Goals as goal

pub play_input-requires : goal.play_input-requires
play_input-requires g c =
    let none : length c.args.words.now ≡ 0 = grind (arith, nat_tests, c.if-is_empty.ensures, c.if-is_empty.true) in
    no_words c.args.words.now none

pub returns-then-is_empty-clause-comes : goal.returns-then-is_empty-clause-comes
returns-then-is_empty-clause-comes g c = comes _ _ c.play_input.ensures

pub returns-clause-says : goal.returns-clause-says
returns-clause-says g c =
    let some : 0 < length c.args.words.now = grind (arith, nat_tests, c.if-is_empty.ensures, c.if-is_empty.false) in
    record { has_words = some_words c.args.words.now some; unread = refl; untouched = refl; no_read_failed = refl; no_write_failed = refl }

pub returns-clause-comes : goal.returns-clause-comes
returns-clause-comes g c =
    let says : UsageRun (run_of g.S.Source g.K.Sink c.args.words.now c.args.source.now c.args.source.now c.args.out.now c.args.out.now) = returns-clause-says g c in
    comes _ Usage says
