use Rattle.std.proofs.Common.{◌≡◌, ◌∙◌, length, map, sum}
use Rattle.stabby_tables.specs.Lists.{entry_place}
use Rattle.stabby_intern.proofs.Counting.{ranks_fit, three_lines}
use Rattle.stabby_intern.proofs.report.make_count_report.Goals as goal

pub sum_of-requires : goal.sum_of-requires
sum_of-requires c =
    let es = c.args.interned.now.entries in let ns = c.args.interned.now.numbers in
    let is : c.deref.result.now ≡ map (entry_place es) ns = c.deref.ensures.value ∙ rw (c.numbers-numbers.ensures, c.entries-entries.ensures) at c.in_ok-ranks.ensures.ok in
    rw is (ranks_fit es ns c.requires.few_tables c.requires.few_entries)

pub returns-clause-report : goal.returns-clause-report
returns-clause-report c =
    let es = c.args.interned.now.entries in let ns = c.args.interned.now.numbers in
    let is : c.deref.result.now ≡ map (entry_place es) ns = c.deref.ensures.value ∙ rw (c.numbers-numbers.ensures, c.entries-entries.ensures) at c.in_ok-ranks.ensures.ok in
    three_lines (length ns) (length es) (sum (map (entry_place es) ns)) c.push_count.new.report.items c.push_count-2.new.report.items c.push_count-3.new.report.items
    (rw (c.new-report.ensures.items, c.numbers-numbers.ensures) at c.in_ok-push_count.ensures.line)
    (rw c.entries-entries.ensures at c.in_ok-push_count-2.ensures.line)
    (rw (c.sum_of.ensures, is) at c.in_ok-push_count-3.ensures.line)
