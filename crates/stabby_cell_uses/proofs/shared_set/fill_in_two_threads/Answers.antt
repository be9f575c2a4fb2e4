use Rattle.std.proofs.Common.{rules, sym, ◌∙◌, ◌≡◌}
use Rattle.stabby_cell.specs.Passes.{IsPassOf, weight_of}
use Rattle.stabby_cell_uses.specs.Fills.{AddsAt, AddedOnly}
use Rattle.stabby_cell_uses.proofs.CommitLemmas.{each_joined, each_entry}
use Rattle.stabby_cell_uses.proofs.FillLemmas.{adds_later}
use Rattle.stabby_cell_uses.proofs.shared_set.fill_in_two_threads.Goals as goal

pub returns-clause-added : goal.returns-clause-added
returns-clause-added g c =
    let first : AddedOnly c.args.set.now c.join-one.result.0 = search rules in
    let second : AddedOnly c.args.set.now c.join-one.result.1 = search rules in
    let one : IsPassOf c.args.set.now.cell c.join-one.result.0 = search rules in
    let two : IsPassOf c.args.set.now.cell c.join-one.result.1 = search rules in
    each_joined (AddsAt c.args.set.now) (adds_later c.args.set.now) _ _ _ first second c.join.ensures.joined c.join.ensures.first c.join.ensures.second (IsPassOf.first_is two ∙ sym (IsPassOf.first_is one))

pub returns-clause-history : goal.returns-clause-history
returns-clause-history g c whole =
    let weight : weight_of c.join.new.pass ≡ weight_of c.args.pass = search rules in
    each_entry (AddsAt c.args.set.now) c.join.new.pass (returns-clause-added g c) (IsPassOf.knows c.join.ensures.pass (weight ∙ whole))
