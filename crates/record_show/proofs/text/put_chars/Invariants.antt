use Rattle.std.proofs.Common.{◌≡◌, ◌++◌, flat_map}
use Rattle.record_show.specs.Shown.{shown_char}
use Rattle.record_show.proofs.text.put_chars.Given as goal

abbrev pub invariant-loop-c : goal.invariant-loop-c
invariant-loop-c l = l.out.items ≡ l.fn.out.items ++ flat_map shown_char l.yielded
