use Rattle.std.proofs.Common.{◌≡◌, ◌<◌, subst, length, rules, arith}
use Rattle.stabby_registry.proofs.EntryPlaces.{begun, number_read, stepped, places_are, Places}
use Rattle.stabby_registry.proofs.ranking.places_of.Goals as goal

pub loop-place-init : goal.loop-place-init
loop-place-init c = begun c.args.entries.now c.in_ok-places.places.items (c.in_ok-places.ensures.items_if_clones_equal (λ y same. search rules))

pub index_mut-requires : goal.index_mut-requires
index_mut-requires c =
    let is = number_read c.args.entries.now c.loop-place.place c.index-entries-place.result c.loop-place-test.true c.index-entries-place.is in
    let low = subst (λ n. n < length c.args.entries.now) is (c.requires.below c.loop-place.place c.loop-place-test.true) in
    omega (arith, low, c.number.ensures, c.loop-place.invariant.long)

pub loop-place-preserved : goal.loop-place-preserved
loop-place-preserved c =
    let is = number_read c.args.entries.now c.loop-place.place c.index-entries-place.result c.loop-place-test.true c.index-entries-place.is in
    stepped c.args.entries.now c.loop-place.place c.number.result c.loop-place.places.items c.requires c.loop-place-test.true (rw c.number.ensures is) c.loop-place.invariant

pub returns-clause-places : goal.returns-clause-places
returns-clause-places c =
    let all : c.loop-place.place ≡ length c.args.entries.now = omega arith in
    places_are c.args.entries.now c.loop-place.places.items (subst (λ i. Places c.args.entries.now i c.loop-place.places.items) all c.loop-place.invariant)
