use Rattle.std.proofs.Common.{◌≡◌, take}
use Rattle.stabby_index.proofs.changes.share_all.Given as goal

-- the copies so far are the changes so far
abbrev pub invariant-loop-change : goal.invariant-loop-change
invariant-loop-change l = l.list.items ≡ take l.change-index l.changes
