use Rattle.std.proofs.Common.{rules, sym, ap, ◌∙◌, ◌≡◌, ◌==◌, ℕ, Some, None}
use Rattle.std.specs.List.{find}
use Rattle.stabby_tables.specs.Tables.{Table}
use Rattle.stabby_registry.specs.Catalog.{listed}
use Rattle.stabby_registry.proofs.Numbering.{number_from_entry, past_from_entry}
use Rattle.stabby_registry.proofs.catalog.Catalog.handle_of.Goals as goal

pub returns-in_ok-handle-in-Some-clause-ok : goal.returns-in_ok-handle-in-Some-clause-ok
returns-in_ok-handle-in-Some-clause-ok g c =
    let es = c.self.inside.entries.items in
    let found : Some c.in-Some.entry.now ≡ find (λ (e : Table × ℕ). e.1 == c.args.number) es = c.in-Some.ensures (λ e. e.1 == c.args.number) (λ x r returned. search rules) in
    let number = number_from_entry (listed es) c.args.number c.in-Some.entry.now c.self.invariant.distinct_tables (found ∙ ap (find (λ (e : Table × ℕ). e.1 == c.args.number)) (sym c.self.invariant.ordered_pairs)) in
    rw (← c.self.view_is, c.in_ok-handle-in-Some.ensures) number

pub returns-in-None-clause-ok : goal.returns-in-None-clause-ok
returns-in-None-clause-ok g c =
    let es = c.self.inside.entries.items in
    let none : None ≡ find (λ (e : Table × ℕ). e.1 == c.args.number) es = c.in-None.ensures (λ e. e.1 == c.args.number) (λ x r returned. search rules) in
    rw (← c.self.view_is) (past_from_entry (listed es) c.args.number c.self.invariant.distinct_tables (none ∙ ap (find (λ (e : Table × ℕ). e.1 == c.args.number)) (sym c.self.invariant.ordered_pairs)))
