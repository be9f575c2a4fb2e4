use Rattle.std.proofs.Common.{◌≡◌, ◌∙◌, arith}
use Rattle.stabby_registry.specs.Passes.{front_of}
use Rattle.stabby_registry.proofs.GoingOn.{goes_on_same}
use Rattle.stabby_intern.specs.Generated.{generated_tables}
use Rattle.stabby_intern.proofs.Counting.{counts_reported, many_numbers, few_entries, none_added, some_generated}
use Rattle.stabby_intern.proofs.program.counts_of_generated.Goals as goal

pub returns-in_err-tables-clause-some_added : goal.returns-in_err-tables-clause-some_added
returns-in_err-tables-clause-some_added g c e = none_added _ _ c.requires.empty

pub returns-in_err-tables-clause-goes_on : goal.returns-in_err-tables-clause-goes_on
returns-in_err-tables-clause-goes_on g c = goes_on_same c.args.pass.now

pub returns-in_err-interned-clause-some_added : goal.returns-in_err-interned-clause-some_added
returns-in_err-interned-clause-some_added g c e =
    let made : c.deref.result.now ≡ generated_tables c.args.asked.tables c.args.asked.divisor = c.deref.ensures.value ∙ c.in_ok-tables.ensures.tables in
    some_generated c.args.asked.tables c.args.asked.divisor _ _ _ made c.requires.empty c.in_err-interned.ensures.some_added

pub make_count_report-requires-clause-few_tables : goal.make_count_report-requires-clause-few_tables
make_count_report-requires-clause-few_tables g c =
    let made : c.deref.result.now ≡ generated_tables c.args.asked.tables c.args.asked.divisor = c.deref.ensures.value ∙ c.in_ok-tables.ensures.tables in
    omega (arith, many_numbers c.args.asked.tables c.args.asked.divisor _ _ _ made c.in_ok-interned.ensures.numbers, c.requires.few)

pub make_count_report-requires-clause-few_entries : goal.make_count_report-requires-clause-few_entries
make_count_report-requires-clause-few_entries g c =
    let made : c.deref.result.now ≡ generated_tables c.args.asked.tables c.args.asked.divisor = c.deref.ensures.value ∙ c.in_ok-tables.ensures.tables in
    omega (arith, few_entries c.args.asked.tables c.args.asked.divisor _ _ _ _ made c.requires.empty c.in_ok-interned.ensures.front c.in_ok-interned.ensures.entries, c.requires.few)

pub returns-in_err-report-clause-some_added : goal.returns-in_err-report-clause-some_added
returns-in_err-report-clause-some_added g c e =
    let made : c.deref.result.now ≡ generated_tables c.args.asked.tables c.args.asked.divisor = c.deref.ensures.value ∙ c.in_ok-tables.ensures.tables in
    some_generated c.args.asked.tables c.args.asked.divisor _ _ _ made c.requires.empty c.in_ok-interned.ensures.front.some

pub returns-clause-ok : goal.returns-clause-ok
returns-clause-ok g c =
    let made : c.deref.result.now ≡ generated_tables c.args.asked.tables c.args.asked.divisor = c.deref.ensures.value ∙ c.in_ok-tables.ensures.tables in
    counts_reported c.args.asked.tables c.args.asked.divisor c.args.asked.workers _ _ (front_of c.intern_all.new.pass) c.in_ok-interned.interned c.in_ok-report.report.items
    made c.requires.empty c.in_ok-interned.ensures.front c.in_ok-interned.ensures.numbers c.in_ok-interned.ensures.entries c.in_ok-interned.ensures.first
    c.in_ok-report.ensures.report
