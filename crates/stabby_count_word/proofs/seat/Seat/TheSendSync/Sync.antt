use denote.Param.Send.{IsSync, part_keyless}
use denote.RattleType.{RattleType}
use Rattle.stabby_count_word.specs.contracts.seat.Seat.{the_row}
use Rattle.stabby_count_word.proofs.seat.Seat.TheSendSync.Send.{send}

pub sync : (W : RattleType) → IsSync (the_row W)
sync W = record { shared = λ d b o κ. λ q. part_keyless (the_row W) (send W) q d b o }
