use Rattle.std.proofs.Common.{rules, refl, inr}
use Rattle.stabby_intern.proofs.memory.MemorySinkSink.write.Goals as goal

-- the call was told to fail
pub returns-then-contains-clause-fails : goal.returns-then-contains-clause-fails
returns-then-contains-clause-fails c = (λ _. inr (search rules), λ _. refl)
