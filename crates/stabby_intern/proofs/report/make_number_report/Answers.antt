use Rattle.std.proofs.Common.{◌≡◌, ◌++◌, ap, refl, map, length, List, ℕ}
use Rattle.std.specs.List.{range_with_len}
use Rattle.std.specs.Fmt.{decimal}
use Rattle.stabby_tables.specs.Lists.{entry_place}
use Rattle.stabby_tables.specs.Lines.{ended}
use Rattle.stabby_intern.proofs.ByNumber.{can_rank_all, places_within, listed_at_places}
use Rattle.stabby_intern.proofs.report.make_number_report.Goals as goal

pub ranks-requires : goal.ranks-requires
ranks-requires c = rw (c.deref.ensures.value, c.in_ok-numbers_below.ensures.numbers, c.entries-entries.ensures) (can_rank_all c.args.interned.now.entries c.args.interned.now.numbers (length c.args.interned.now.entries) refl c.requires.can_rank)

pub push_at_places-requires : goal.push_at_places-requires
push_at_places-requires c =
    let es = c.args.interned.now.entries in
    let is : c.in_ok-places.places.items ≡ map (entry_place es) (range_with_len 0 (length es)) = rw (c.deref.ensures.value, c.in_ok-numbers_below.ensures.numbers, c.entries-entries.ensures) at c.in_ok-places.ensures.ok in
    record { places = rw (c.deref-2.ensures.value, c.entries-entries.ensures) (places_within es (length es) c.in_ok-places.places.items refl c.requires.in_order c.requires.distinct is) }

pub returns-clause-report : goal.returns-clause-report
returns-clause-report c =
    let es = c.args.interned.now.entries in
    let is : c.in_ok-places.places.items ≡ map (entry_place es) (range_with_len 0 (length es)) = rw (c.deref.ensures.value, c.in_ok-numbers_below.ensures.numbers, c.entries-entries.ensures) at c.in_ok-places.ensures.ok in
    rw (c.in_ok-push_at_places.ensures.tables, c.in_ok-push_numbers.ensures.numbers, c.new-report.ensures.items, c.numbers.ensures, c.deref-2.ensures.value, c.entries-entries.ensures)
    (ap (λ (l : List (List ℕ)). ended (map decimal c.args.interned.now.numbers) ++ ended l) (listed_at_places es (length es) c.in_ok-places.places.items refl is))
