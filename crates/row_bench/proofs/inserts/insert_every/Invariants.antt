use Rattle.row_bench.proofs.inserts.insert_every.Given as goal

abbrev pub invariant-loop : goal.invariant-loop
invariant-loop g l = g.R.VTableRegistry.belongs l.registry l.pass
