-- What a share ends as, where a `&mut` to its value is returned.
use Rattle.std.specs.Borrow.{Lends, Fml, RattleType, MutBor}
use Rattle.std.specs.declared.alloc.Allocator.{Ghosts}
use Rattle.stabby_count_word.specs.declared.rule.CountRule.{Ghosts as RuleGhosts}
use Rattle.stabby_count_word.specs.declared.share.Share.{Share}
use Rattle.stabby_count_word.specs.contracts.share.Share.{the_row}

-- the same share with another value
abbrev pub with_value : {X Z W P : Type 0} → Share X Z W P → X → Share X Z W P
with_value b x = record b { value = x }

-- once the borrow r ends, the share has the value that r shows last
abbrev pub lends_value : (T A W P : RattleType) (g : Ghosts A.Denot) (r : RuleGhosts P.Denot W.Denot) → MutBor (Share T.Denot A.Denot W.Denot P.Denot) → MutBor T.Denot → Fml
lends_value T A W P g r b v = Lends (the_row T A W P g r) T b v (with_value b.now)
