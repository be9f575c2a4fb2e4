use denote.RattleType.{RattleType}
use denote.Param.Send.{IsSend}
use types.Keyed.{entry_keyless}
use Rattle.atomic_table.specs.Seated.{halved}
use Rattle.stabby_count_word.specs.contracts.seat.Seat.{the_row}

pub send : (W : RattleType) → IsSend (the_row W)
send W = record { owned = λ d vs. ((λ vss. (tt, ((λ uss. (tt, tt)), tt))), entry_keyless halved d.views d.id _); leaving = λ k f vs. tt }
