use Rattle.std.proofs.Common.{◌≡◌, ◌≤◌, length}
use Rattle.stabby_intern.specs.Devices.{Gave}
use Rattle.stabby_intern.proofs.transfer.read_to_end.Given as goal

-- the bytes so far are those that the source gave, at least one in each turn
abbrev pub invariant-loop-turn : goal.invariant-loop-turn
invariant-loop-turn g l = record {
  gave : Gave (g.S.Source.left l.fn.source) (g.S.Source.left l.source) l.text.items;
  fits : length l.text.items ≤ 16777216;
  each : l.turn ≤ length l.text.items;
  kept : g.S.Source.faults l.source ≡ g.S.Source.faults l.fn.source;
  room : length l.buf ≡ 65536;
}
