use Rattle.std.proofs.Common.{rules, sym, ◌∙◌, ◌≡◌}
use Rattle.stabby_cell.specs.Passes.{IsPassOf, weight_of}
use Rattle.stabby_cell_uses.specs.Stores.{StoredOnly}
use Rattle.stabby_cell_uses.proofs.StoreLemmas.{only_two}
use Rattle.stabby_cell_uses.proofs.shared_value.store_in_two_threads.Goals as goal

pub returns-clause-history : goal.returns-clause-history
returns-clause-history g c whole =
    let first : StoredOnly c.args.first c.join-one.result.0 = search rules in
    let second : StoredOnly c.args.second c.join-one.result.1 = search rules in
    let one : IsPassOf c.args.cell.now.cell c.join-one.result.0 = search rules in
    let two : IsPassOf c.args.cell.now.cell c.join-one.result.1 = search rules in
    let weight : weight_of c.join.new.pass ≡ weight_of c.args.pass = search rules in
    only_two c.args.first c.args.second _ _ _ first second c.join.ensures.joined c.join.ensures.first c.join.ensures.second (IsPassOf.first_is two ∙ sym (IsPassOf.first_is one)) (IsPassOf.knows c.join.ensures.pass (weight ∙ whole))
