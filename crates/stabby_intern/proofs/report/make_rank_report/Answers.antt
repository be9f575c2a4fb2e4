use Rattle.std.proofs.Common.{◌≡◌, ◌++◌, ◌<◌, ap, refl, map, length, List, ℕ, subst, sym, ◌∙◌}
use Rattle.std.specs.List.{range_with_len, All}
use Rattle.std.proofs.lemmas.List.FromFn.{length-map-range_with_len}
use Rattle.stabby_tables.specs.Lists.{entry_place}
use Rattle.stabby_tables.specs.Tables.{Table}
use Rattle.stabby_tables.specs.Lines.{ended}
use Rattle.stabby_tables.specs.Reports.{spelled}
use Rattle.stabby_intern.proofs.ByNumber.{can_rank_all, ranks_at_places}
use Rattle.stabby_intern.proofs.report.make_rank_report.Goals as goal

pub ranks-requires : goal.ranks-requires
ranks-requires c = rw (c.deref.ensures.value, c.in_ok-numbers_below.ensures.numbers, c.entries-entries.ensures) (can_rank_all c.args.interned.now.entries c.args.interned.now.numbers (length c.args.interned.now.entries) refl c.requires.can_rank)

pub push_ranks-requires : goal.push_ranks-requires
push_ranks-requires c =
    let es = c.args.interned.now.entries in
    let is : c.in_ok-places.places.items ≡ map (entry_place es) (range_with_len 0 (length es)) = rw (c.deref.ensures.value, c.in_ok-numbers_below.ensures.numbers, c.entries-entries.ensures) at c.in_ok-places.ensures.ok in
    let long : length c.in_ok-places.places.items ≡ length es = ap length is ∙ length-map-range_with_len (entry_place es) 0 (length es) in
    rw (c.deref-2.ensures.value, c.numbers.ensures) (subst (λ m. All (λ n. n < m) c.args.interned.now.numbers) (sym long) c.requires.can_rank.known)

pub returns-clause-report : goal.returns-clause-report
returns-clause-report c =
    let es = c.args.interned.now.entries in
    let is : c.in_ok-places.places.items ≡ map (entry_place es) (range_with_len 0 (length es)) = rw (c.deref.ensures.value, c.in_ok-numbers_below.ensures.numbers, c.entries-entries.ensures) at c.in_ok-places.ensures.ok in
    rw (c.in_ok-push_entries.ensures.tables, c.in_ok-push_ranks.ensures.ranks, c.new-report.ensures.items, c.numbers.ensures, c.deref-2.ensures.value, c.entries-entries.ensures)
    (ap (λ (l : List (List ℕ)). ended l ++ ended (map (λ (e : Table × ℕ). spelled e.0) es)) (ranks_at_places es c.args.interned.now.numbers c.in_ok-places.places.items is c.requires.can_rank.known))
