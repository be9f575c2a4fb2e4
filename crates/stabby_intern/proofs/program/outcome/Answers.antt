use Rattle.std.proofs.Common.{refl, subst, map, string_bytes}
use Rattle.stabby_registry.specs.Passes.{front_of}
use Rattle.stabby_intern.specs.declared.status.Status.TheVariants.{Usage}
use Rattle.stabby_intern.specs.Runs.{run_of, source_of, Says, UsageRun}
use Rattle.stabby_intern.proofs.Endings.{comes}
use Rattle.stabby_intern.proofs.program.outcome.Goals as goal

pub returns-in-None-clause-comes : goal.returns-in-None-clause-comes
returns-in-None-clause-comes g c =
    let says : UsageRun (run_of g.S.Source g.K.Sink c.args.words.now c.args.source.now c.args.source.now c.args.out.now c.args.out.now (front_of c.args.pass.now))
    = record { no_command = c.in-None.ensures.none refl; nothing_added = c.requires.empty; no_read_failed = refl; no_write_failed = refl } in
    comes _ Usage says

pub returns-in-Some-Intern-clause-comes : goal.returns-in-Some-Intern-clause-comes
returns-in-Some-Intern-clause-comes g c = comes _ _ (c.intern_input.ensures.says (map string_bytes c.args.words.now) (rw c.in-Some-Intern.field-0-is at c.in-Some-Intern.ensures.some))

pub returns-in-Some-Generate-clause-says : goal.returns-in-Some-Generate-clause-says
returns-in-Some-Generate-clause-says g c =
    c.intern_generated.ensures.says (map string_bytes c.args.words.now) (source_of g.S.Source c.args.source.now c.args.source.now) (rw c.in-Some-Generate.field-0-is at c.in-Some-Generate.ensures.some) refl

pub returns-in-Some-Generate-clause-comes : goal.returns-in-Some-Generate-clause-comes
returns-in-Some-Generate-clause-comes g c = comes _ _ (returns-in-Some-Generate-clause-says g c)

-- the words are a command
pub returns-in-Some-Generate-clause-usage_leaves : goal.returns-in-Some-Generate-clause-usage_leaves
returns-in-Some-Generate-clause-usage_leaves g c usage =
    let r = run_of g.S.Source g.K.Sink c.args.words.now c.args.source.now c.args.source.now c.args.out.now c.intern_generated.new.out (front_of c.intern_generated.new.pass) in
    let left : UsageRun r = subst (Says r) usage (returns-in-Some-Generate-clause-says g c) in
    absurd (left.no_command.no_generation c.in-Some-Generate.asked.tables c.in-Some-Generate.asked.divisor c.in-Some-Generate.asked.workers (rw c.in-Some-Generate.field-0-is at c.in-Some-Generate.ensures.some))
