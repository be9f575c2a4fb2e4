-- What a share of a list ends as, where a `&mut` to its items is returned.
use Rattle.std.specs.Prelude.{List}
use Rattle.std.specs.Borrow.{Lends, Fml, RattleType, MutBor, Array}
use Rattle.std.specs.declared.alloc.Allocator.{Ghosts}
use Rattle.std.specs.contracts.alloc.Global as global
use Rattle.std.specs.contracts.impls.GlobalAllocator.TheImpl.{ghosts}
use Rattle.stabby_count_word.specs.Lending.{with_value}
use Rattle.stabby_count_word.specs.contracts.share.Share as share
use Rattle.stabby_count_word.specs.declared.rule.CountRule.{Ghosts as RuleGhosts}
use Rattle.stabby_count_word.specs.declared.share.Share.{Share}
use Rattle.stabby_vec.specs.Sequence.{Sequence, with_items}
use Rattle.stabby_vec.specs.contracts.sequence.Vec as list

-- a list on the heap, as the logic names its type
abbrev pub list_row : RattleType → RattleType
list_row T = list.the_row T global.the_row ghosts

-- a share of a list with other items, in its capacity
abbrev pub with_shared_items : {X Z W P : Type 0} → Share (Sequence X) Z W P → List X → Share (Sequence X) Z W P
with_shared_items s items = with_value s (with_items s.value items)

module _ (T A B W P : RattleType) (a : Ghosts A.Denot) (b : Ghosts B.Denot) (r : RuleGhosts P.Denot W.Denot) where
  abbrev shared_row : RattleType
  shared_row = share.the_row (list.the_row T A a) B W P b r

  -- once the borrow x ends, the items are those that x shows last
  abbrev pub share_lends_items : MutBor (Share (Sequence T.Denot) B.Denot W.Denot P.Denot) → MutBor (List T.Denot) → Fml
  share_lends_items s x = Lends shared_row (Array T 0) s x (with_shared_items s.now)
