use Rattle.std.proofs.Common.{◌≡◌}
use Rattle.stabby_intern.specs.Generated.{generated_tables}
use Rattle.stabby_intern.proofs.generate.generate_tables.Given as goal

-- the tables at the places so far
abbrev pub invariant-loop-place : goal.invariant-loop-place
invariant-loop-place l = l.tables.items ≡ generated_tables l.place l.divisor
