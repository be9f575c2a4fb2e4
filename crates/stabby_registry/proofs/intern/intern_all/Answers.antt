use Rattle.std.proofs.lemmas.Result.{err_from_is_err_and}
use Rattle.stabby_registry.proofs.Interning.{interned_some, interned_absent, interned_numbers, interned_known, interned_first}
use Rattle.stabby_registry.proofs.Numbering.{can_rank}
use Rattle.stabby_registry.proofs.GoingOn.{goes_on_then, goes_on_looked}
use Rattle.stabby_registry.proofs.intern.intern_all.Goals as goal

pub returns-in-Err-Memory-clause-some_added : goal.returns-in-Err-Memory-clause-some_added
returns-in-Err-Memory-clause-some_added g c =
    interned_some c.args.registry.now c.args.pass.now c.number_tables-numbered.new.pass c.entries-entries.new.pass c.args.registry.now.zero c.requires.belongs c.number_tables-numbered.ensures.pass c.entries-entries.ensures.pass
    c.requires.whole c.number_tables-numbered.ensures.weight c.entries-entries.ensures.looked c.entries-entries.ensures.distinct c.args.tables.now c.args.workers c.number_tables-numbered.ensures.joined

pub returns-in_err-entries-in-Ok-clause-some_added : goal.returns-in_err-entries-in-Ok-clause-some_added
returns-in_err-entries-in-Ok-clause-some_added g c =
    let p = err_from_is_err_and c.from_residual.result c.from_residual.ensures.1 in
    rw p.1
    (interned_some c.args.registry.now c.args.pass.now c.number_tables-numbered.new.pass c.entries-entries.new.pass c.args.registry.now.zero c.requires.belongs c.number_tables-numbered.ensures.pass c.entries-entries.ensures.pass
    c.requires.whole c.number_tables-numbered.ensures.weight c.entries-entries.ensures.looked c.entries-entries.ensures.distinct c.args.tables.now c.args.workers c.number_tables-numbered.ensures.joined)

pub returns-in_ok-entries-in-Ok-clause-front : goal.returns-in_ok-entries-in-Ok-clause-front
returns-in_ok-entries-in-Ok-clause-front g c =
    interned_absent c.args.registry.now c.args.pass.now c.number_tables-numbered.new.pass c.entries-entries.new.pass c.args.registry.now.zero c.requires.belongs c.number_tables-numbered.ensures.pass c.entries-entries.ensures.pass
    c.requires.whole c.number_tables-numbered.ensures.weight c.entries-entries.ensures.looked c.entries-entries.ensures.distinct c.args.tables.now c.args.workers c.number_tables-numbered.ensures.joined c.in-Ok.numbers.items
    c.in-Ok.ensures.outcome c.requires.workers.0

pub returns-in_ok-entries-in-Ok-clause-numbers : goal.returns-in_ok-entries-in-Ok-clause-numbers
returns-in_ok-entries-in-Ok-clause-numbers g c =
    interned_numbers c.args.registry.now c.args.pass.now c.number_tables-numbered.new.pass c.entries-entries.new.pass c.args.registry.now.zero c.requires.belongs c.number_tables-numbered.ensures.pass c.entries-entries.ensures.pass
    c.requires.whole c.number_tables-numbered.ensures.weight c.entries-entries.ensures.looked c.entries-entries.ensures.distinct c.args.tables.now c.args.workers c.number_tables-numbered.ensures.joined c.in-Ok.numbers.items
    c.in-Ok.ensures.outcome c.requires.workers.0

pub returns-in_ok-entries-in-Ok-clause-first : goal.returns-in_ok-entries-in-Ok-clause-first
returns-in_ok-entries-in-Ok-clause-first g c =
    interned_first c.args.registry.now c.args.pass.now c.number_tables-numbered.new.pass c.entries-entries.new.pass c.args.registry.now.zero c.requires.belongs c.number_tables-numbered.ensures.pass c.entries-entries.ensures.pass
    c.requires.whole c.number_tables-numbered.ensures.weight c.entries-entries.ensures.looked c.entries-entries.ensures.distinct c.args.tables.now c.args.workers c.number_tables-numbered.ensures.joined c.in-Ok.numbers.items
    c.in-Ok.ensures.outcome c.requires.workers.0

pub returns-in_ok-entries-in-Ok-clause-can_rank : goal.returns-in_ok-entries-in-Ok-clause-can_rank
returns-in_ok-entries-in-Ok-clause-can_rank g c =
    let numbers = interned_numbers c.args.registry.now c.args.pass.now c.number_tables-numbered.new.pass c.entries-entries.new.pass c.args.registry.now.zero c.requires.belongs c.number_tables-numbered.ensures.pass
    c.entries-entries.ensures.pass c.requires.whole c.number_tables-numbered.ensures.weight c.entries-entries.ensures.looked c.entries-entries.ensures.distinct c.args.tables.now c.args.workers c.number_tables-numbered.ensures.joined
    c.in-Ok.numbers.items c.in-Ok.ensures.outcome c.requires.workers.0 in
    let known = interned_known c.args.registry.now c.args.pass.now c.number_tables-numbered.new.pass c.entries-entries.new.pass c.args.registry.now.zero c.requires.belongs c.number_tables-numbered.ensures.pass
    c.entries-entries.ensures.pass c.requires.whole c.number_tables-numbered.ensures.weight c.entries-entries.ensures.looked c.entries-entries.ensures.distinct c.args.tables.now c.args.workers c.number_tables-numbered.ensures.joined
    c.in-Ok.numbers.items c.in-Ok.ensures.outcome c.requires.workers.0 in
    rw (c.in_ok-entries-in-Ok.ensures.ok, numbers) (can_rank _ _ c.entries-entries.ensures.distinct known)

pub returns-in-Err-Memory-clause-goes_on : goal.returns-in-Err-Memory-clause-goes_on
returns-in-Err-Memory-clause-goes_on g c = goes_on_then c.args.pass.now c.number_tables-numbered.new.pass c.entries-entries.new.pass c.number_tables-numbered.ensures.goes_on (goes_on_looked _ _ c.entries-entries.ensures.looked)

pub returns-in_err-entries-in-Ok-clause-goes_on : goal.returns-in_err-entries-in-Ok-clause-goes_on
returns-in_err-entries-in-Ok-clause-goes_on g c = goes_on_then c.args.pass.now c.number_tables-numbered.new.pass c.entries-entries.new.pass c.number_tables-numbered.ensures.goes_on (goes_on_looked _ _ c.entries-entries.ensures.looked)

pub returns-in_ok-entries-in-Ok-clause-goes_on : goal.returns-in_ok-entries-in-Ok-clause-goes_on
returns-in_ok-entries-in-Ok-clause-goes_on g c = goes_on_then c.args.pass.now c.number_tables-numbered.new.pass c.entries-entries.new.pass c.number_tables-numbered.ensures.goes_on (goes_on_looked _ _ c.entries-entries.ensures.looked)
