use denote.RattleType.{RattleType}
use denote.Param.Send.{IsSend, IsSync, Frees, sendable}
use denote.Struct.Struct.{Struct}
use denote.Struct.Owning.{shape}
use Rattle.core.specs.declared.alloc.Allocator.{Ghosts}
use Rattle.stabby_count_word.specs.declared.rule.CountRule.{Ghosts as RuleGhosts}
use Rattle.stabby_count_word.proofs.Sent.{shares_keyless}
use Rattle.stabby_count_word.specs.contracts.share.Share.{the_row, the_type}

pub sync : (T A X Y : RattleType) (g : Ghosts A.Denot) (r : RuleGhosts Y.Denot X.Denot) → IsSend T → IsSend A → IsSync T → IsSync A → Frees g g.dealloc_token → IsSync (the_row T A X Y g r)
sync T A X Y g r s sa y ya f = let fields : IsSync (Struct (shape (the_type T A X Y g r))) = search sendable depth 20 in
    record { shared = λ d b o κ. (fields.shared (d.ptr, (tt, tt)) b o κ, shares_keyless A T y (d.round, (d.value, d.ptr)) d.kind κ) }
