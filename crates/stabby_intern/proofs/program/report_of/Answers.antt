use Rattle.std.proofs.lemmas.Result.{err_from_is_err_and}
use Rattle.stabby_intern.proofs.Reporting.{bad_line, partly, reported, entries_in_order, entries_distinct}
use Rattle.stabby_registry.specs.Passes.{front_of}
use Rattle.stabby_registry.proofs.GoingOn.{goes_on_same}
use Rattle.stabby_intern.proofs.program.report_of.Goals as goal

pub returns-in_err-tables-clause-bad_word : goal.returns-in_err-tables-clause-bad_word
returns-in_err-tables-clause-bad_word g c line e =
    let p = err_from_is_err_and c.from_residual.result c.from_residual.ensures.1 in
    (bad_line c.args.text.now line (c.in_err-tables.ensures.bad_word line (cc (p.1, p.2, e))), c.requires.empty)

pub returns-in_err-interned-clause-memory : goal.returns-in_err-interned-clause-memory
returns-in_err-interned-clause-memory g c e = partly c.args.text.now _ _ _ c.in_ok-tables.ensures.tables c.requires.empty (rw c.deref.ensures.value at c.in_err-interned.ensures.some_added)

pub returns-in_err-make_report-clause-memory : goal.returns-in_err-make_report-clause-memory
returns-in_err-make_report-clause-memory g c e =
    let front = rw c.deref.ensures.value at c.in_ok-interned.ensures.front in
    partly c.args.text.now _ _ _ c.in_ok-tables.ensures.tables c.requires.empty front.some

pub make_report-requires-clause-in_order : goal.make_report-requires-clause-in_order
make_report-requires-clause-in_order g c =
    entries_in_order c.in_ok-interned.interned.entries (front_of c.intern_all.new.pass) c.in_ok-interned.ensures.entries c.in_ok-interned.ensures.front.some.once

pub make_report-requires-clause-distinct : goal.make_report-requires-clause-distinct
make_report-requires-clause-distinct g c =
    entries_distinct c.in_ok-interned.interned.entries (front_of c.intern_all.new.pass) c.in_ok-interned.ensures.entries c.in_ok-interned.ensures.front.some.once

pub returns-clause-ok : goal.returns-clause-ok
returns-clause-ok g c =
    reported c.args.asked.task c.args.text.now c.args.asked.workers c.in_ok-tables.tables.items (front_of c.args.pass.now) (front_of c.intern_all.new.pass)
    c.in_ok-interned.interned c.in_ok-make_report.field-0.items
    c.in_ok-tables.ensures.tables c.requires.empty
    (rw c.deref.ensures.value at c.in_ok-interned.ensures.front)
    (rw c.deref.ensures.value at c.in_ok-interned.ensures.numbers)
    c.in_ok-interned.ensures.entries
    c.in_ok-interned.ensures.first
    c.in_ok-make_report.ensures.report

pub returns-in_err-tables-clause-goes_on : goal.returns-in_err-tables-clause-goes_on
returns-in_err-tables-clause-goes_on g c = goes_on_same c.args.pass.now
