use Rattle.std.proofs.Common.{arith, ℕ, ◌<◌, sym, subst}
use Rattle.std.specs.List.{Contains}
use Rattle.stabby_row.specs.Seats.{view_of}
use Rattle.stabby_row.proofs.CallLemmas.{once, row_full, still_marked, fronts, known_unclaimed}
use Rattle.stabby_row.proofs.row.WordRow.insert_row.Goals as goal

pub overflow_add-outcome : goal.overflow_add-outcome
overflow_add-outcome c = let e = c.insert_at-outcome.ensures in let r = e.same.1 in let h = r.half in let s = r.small in let k = e.counts in omega arith

pub invariant_of-pass-clause-left_is_marked : goal.invariant_of-pass-clause-left_is_marked
invariant_of-pass-clause-left_is_marked c =
    let e = c.insert_at-outcome.ensures in
    let v = view_of c.insert_at-outcome.new.seat in
    subst (λ (z : ℕ). ∥ (0 < z → Contains v.tally.marks z) ∥₁) (sym e.counts.1) (still_marked c.args.table.now c.args.pass.now v e.claims)

pub returns-clause-front : goal.returns-clause-front
returns-clause-front c = fronts _ _ c.insert_at-outcome.ensures.grown.front

pub returns-clause-distinct : goal.returns-clause-distinct
returns-clause-distinct c = c.insert_at-outcome.ensures.same.1.apart

pub returns-clause-claims : goal.returns-clause-claims
returns-clause-claims c = once _ c.args.pass.now _ c.insert_at-outcome.ensures.claims

pub returns-clause-known : goal.returns-clause-known
returns-clause-known c = λ there. known_unclaimed _ _ _ c.insert_at-outcome.ensures.grown.front there c.insert_at-outcome.ensures.claims

pub returns-clause-full : goal.returns-clause-full
returns-clause-full c = let e = c.insert_at-outcome.ensures in row_full _ c.args.pass.now _ _ c.insert_at-outcome.result.n c.insert_at-outcome.result.seen c.insert_at-outcome.result.answer e.grown e.counts.0 e.full
