use Rattle.stabby_registry.proofs.EntryPlaces.{Places}
use Rattle.stabby_registry.proofs.ranking.places_of.Given as goal

abbrev pub invariant-loop-place : goal.invariant-loop-place
invariant-loop-place l = Places l.entries l.place l.places.items
