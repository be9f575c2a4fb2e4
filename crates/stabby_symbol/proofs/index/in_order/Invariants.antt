use Rattle.std.proofs.Common.{◌≡◌, map}
use Rattle.stabby_symbol.proofs.index.in_order.Given as goal

abbrev pub invariant-loop-word : goal.invariant-loop-word
invariant-loop-word l = l.index.items ≡ map (λ e. e.1) l.yielded
