use Rattle.std.proofs.Common.{◌+◌, arith, rules}
use Rattle.std.specs.Mem.Slots.{slots_len, slots_filled}
use Rattle.std.specs.Mem.Slots.Ownership.{Filled}
use Rattle.stabby_vec.proofs.TurnLemmas.{filled_after_take, turned_step}
use Rattle.stabby_vec.proofs.vec.turning.+hold_eights.Goals as goal

pub hold_eights-requires : goal.hold_eights-requires
hold_eights-requires g t c κs within =
    let full_1 = filled_after_take _ _ c.args.at _ (c.args.at + 1) c.take-first.ensures.filled (omega arith) c.requires.filled in
    let full_2 = filled_after_take _ _ (c.args.at + 1) _ (c.args.at + 2) c.take-second.ensures.filled (omega arith) full_1 in
    let full_3 = filled_after_take _ _ (c.args.at + 2) _ (c.args.at + 3) c.take-third.ensures.filled (omega arith) full_2 in
    let full_4 = filled_after_take _ _ (c.args.at + 3) _ (c.args.at + 4) c.take-fourth.ensures.filled (omega arith) full_3 in
    let full_5 = filled_after_take _ _ (c.args.at + 4) _ (c.args.at + 5) c.take-fifth.ensures.filled (omega arith) full_4 in
    let full_6 = filled_after_take _ _ (c.args.at + 5) _ (c.args.at + 6) c.take-sixth.ensures.filled (omega arith) full_5 in
    let full_7 = filled_after_take _ _ (c.args.at + 6) _ (c.args.at + 7) c.take-seventh.ensures.filled (omega arith) full_6 in
    let full_8 = filled_after_take _ _ (c.args.at + 7) _ (c.args.at + 8) c.take-eighth.ensures.filled (omega arith) full_7 in
    let count_1 = c.take-first.ensures.places.count in
    let count_2 = c.take-second.ensures.places.count in
    let count_3 = c.take-third.ensures.places.count in
    let count_4 = c.take-fourth.ensures.places.count in
    let count_5 = c.take-fifth.ensures.places.count in
    let count_6 = c.take-sixth.ensures.places.count in
    let count_7 = c.take-seventh.ensures.places.count in
    let count_8 = c.take-eighth.ensures.places.count in
    let some = c.if-count-at-lt8.false in
    let full : Filled (slots_filled c.take-eighth.new.self) (c.args.at + 8) (slots_len c.take-eighth.new.self) = λ k p q. full_8 k p (omega arith) in
    search rules

pub returns : goal.returns
returns g t c =
    let count_1 = c.take-first.ensures.places.count in
    let count_2 = c.take-second.ensures.places.count in
    let count_3 = c.take-third.ensures.places.count in
    let count_4 = c.take-fourth.ensures.places.count in
    let count_5 = c.take-fifth.ensures.places.count in
    let count_6 = c.take-sixth.ensures.places.count in
    let count_7 = c.take-seventh.ensures.places.count in
    let count_8 = c.take-eighth.ensures.places.count in
    let turned = c.hold_eights.ensures in
    let count_9 = turned.places.count in
    let back_1 = c.put.ensures.places.count in
    let back_2 = c.put-2.ensures.places.count in
    let back_3 = c.put-3.ensures.places.count in
    let back_4 = c.put-4.ensures.places.count in
    let back_5 = c.put-5.ensures.places.count in
    let back_6 = c.put-6.ensures.places.count in
    let back_7 = c.put-7.ensures.places.count in
    let len = c.len.ensures in
    let some = c.if-count-at-lt8.false in
    let within = c.requires.in_bounds in
    let low = c.requires.ordered in
    let step_8 = turned_step (c.args.at + 7) _ c.args.count _ c.take-eighth.result turned (omega arith) (omega arith) (omega arith) (omega arith)
    c.take-eighth.ensures.value c.take-eighth.ensures.items c.take-eighth.ensures.places c.put.ensures.items c.put.ensures.filled c.put.ensures.places in
    let step_7 = turned_step (c.args.at + 6) _ c.args.count _ c.take-seventh.result step_8 (omega arith) (omega arith) (omega arith) (omega arith)
    c.take-seventh.ensures.value c.take-seventh.ensures.items c.take-seventh.ensures.places c.put-2.ensures.items c.put-2.ensures.filled c.put-2.ensures.places in
    let step_6 = turned_step (c.args.at + 5) _ c.args.count _ c.take-sixth.result step_7 (omega arith) (omega arith) (omega arith) (omega arith)
    c.take-sixth.ensures.value c.take-sixth.ensures.items c.take-sixth.ensures.places c.put-3.ensures.items c.put-3.ensures.filled c.put-3.ensures.places in
    let step_5 = turned_step (c.args.at + 4) _ c.args.count _ c.take-fifth.result step_6 (omega arith) (omega arith) (omega arith) (omega arith)
    c.take-fifth.ensures.value c.take-fifth.ensures.items c.take-fifth.ensures.places c.put-4.ensures.items c.put-4.ensures.filled c.put-4.ensures.places in
    let step_4 = turned_step (c.args.at + 3) _ c.args.count _ c.take-fourth.result step_5 (omega arith) (omega arith) (omega arith) (omega arith)
    c.take-fourth.ensures.value c.take-fourth.ensures.items c.take-fourth.ensures.places c.put-5.ensures.items c.put-5.ensures.filled c.put-5.ensures.places in
    let step_3 = turned_step (c.args.at + 2) _ c.args.count _ c.take-third.result step_4 (omega arith) (omega arith) (omega arith) (omega arith)
    c.take-third.ensures.value c.take-third.ensures.items c.take-third.ensures.places c.put-6.ensures.items c.put-6.ensures.filled c.put-6.ensures.places in
    let step_2 = turned_step (c.args.at + 1) _ c.args.count _ c.take-second.result step_3 (omega arith) (omega arith) (omega arith) (omega arith)
    c.take-second.ensures.value c.take-second.ensures.items c.take-second.ensures.places c.put-7.ensures.items c.put-7.ensures.filled c.put-7.ensures.places in
    let step_1 = turned_step c.args.at _ c.args.count _ c.take-first.result step_2 (omega arith) (omega arith) (omega arith) (omega arith)
    c.take-first.ensures.value c.take-first.ensures.items c.take-first.ensures.places c.put-8.ensures.items c.put-8.ensures.filled c.put-8.ensures.places in
    step_1
