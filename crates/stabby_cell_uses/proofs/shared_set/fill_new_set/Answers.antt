use Rattle.std.proofs.Common.{ap, ◌∙◌, arith, length}
use Rattle.stabby_cell.specs.Recording.{ViewAdvances}
use Rattle.stabby_cell.specs.Passes.{IsPassOf, Looked}
use Rattle.stabby_cell_uses.specs.Fills.{AddsAt, size_of}
use Rattle.stabby_cell_uses.proofs.CommitLemmas.{each_looked}
use Rattle.stabby_cell_uses.proofs.FillLemmas.{adds_later, whole_size, counted}
use Rattle.stabby_cell_uses.proofs.shared_set.fill_new_set.Goals as goal

pub returns-clause-size : goal.returns-clause-size
returns-clause-size g c =
    let set = c.in-Ok.set in
    let own = c.snapshot.ensures.pass in
    let whole = ViewAdvances.weight (Looked.advances c.snapshot.ensures.looked) ∙ (c.fill_in_two_threads-pass.ensures.weight ∙ c.in-Ok.ensures.whole) in
    let added = each_looked (AddsAt set) (adds_later set) c.fill_in_two_threads-pass.result c.snapshot.new.pass c.fill_in_two_threads-pass.ensures.added c.snapshot.ensures.looked in
    let sized = ap size_of c.in-Ok-snapshot.ensures.contents ∙ whole_size set c.snapshot.new.pass own added whole in
    let empty = ap length c.in-Ok.ensures.empty in
    let stamp = c.in-Ok.ensures.stamp in
    let first = IsPassOf.first_is c.in-Ok.ensures.pass in
    let firsts = IsPassOf.first_is own in
    let seen = c.seen.ensures.stamp in
    let limit = c.seen.ensures.limit in
    counted _ _ _ c.len.ensures (omega (arith, sized, empty, stamp, first, firsts, seen)) limit
