use denote.RattleType.{RattleType}
use denote.Param.Send.{IsSend, IsSync, Frees}
use Rattle.core.specs.declared.alloc.Allocator.{Ghosts}
use Rattle.stabby_count_word.specs.declared.rule.CountRule.{Ghosts as RuleGhosts}
use Rattle.stabby_count_word.proofs.Sent.{owns_keyless}
use Rattle.stabby_count_word.specs.contracts.share.Share.{the_row}

pub send : (T A X Y : RattleType) (g : Ghosts A.Denot) (r : RuleGhosts Y.Denot X.Denot) → IsSend T → IsSend A → IsSync T → IsSync A → Frees g g.dealloc_token → IsSend (the_row T A X Y g r)
send T A X Y g r s sa y ya f = record { owned = λ d vs. ((λ vss. (tt, (tt, ((λ uss. (tt, tt)), tt)))), owns_keyless A T g s y sa f X.coded.code r.holds d.names (d.round, (d.value, d.ptr)) d.kind d.id d.view); leaving = λ k f vs. tt }
