use Rattle.std.proofs.Common.{arith, ap, ◌∙◌}
use Rattle.stabby_cell.specs.Recording.{ViewAdvances}
use Rattle.stabby_cell.specs.Passes.{Looked, IsPassOf, IsEachOnce}
use Rattle.stabby_cell_uses.specs.declared.counter.Counter.{Counter}
use Rattle.stabby_cell_uses.proofs.CounterLemmas.{number_reached}
use Rattle.stabby_cell_uses.proofs.two_threads.count_in_two_threads.Goals as goal

pub returns-in-Ok-clause-all : goal.returns-in-Ok-clause-all
returns-in-Ok-clause-all g c =
    let shown = number_reached _ _ _ c.read-number.ensures.number in
    let from_zero = ap (λ (v : Counter). v.number) c.in-Ok.ensures.version in
    let whole = ViewAdvances.weight (Looked.advances c.read-number.ensures.looked) ∙ (c.add_in_two_threads-pass.ensures.weight ∙ c.in-Ok.ensures.whole) in
    let commits = IsEachOnce.count (IsPassOf.knows c.read-number.ensures.pass whole) in
    let added = c.added.ensures in omega arith
