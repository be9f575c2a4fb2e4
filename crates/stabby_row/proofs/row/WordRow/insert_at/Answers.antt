use Rattle.std.proofs.Common.{◌≡◌, Bool, cond, ◌+◌, ◌-◌, subst, ◌∙◌, refl}
use Rattle.std.proofs.lemmas.Bool.{MatchBool-at_true, MatchBool-at_false}
use Rattle.stabby_row.specs.Rule.{Absent}
use Rattle.stabby_row.specs.Seats.{view_of, HasTable, Reached, after_walk}
use Rattle.stabby_row.proofs.WalkLemmas.{is_at, front_all}
use Rattle.stabby_row.proofs.InsertLemmas.{claims_once, full_once}
use Rattle.stabby_row.proofs.row.WordRow.insert_at.Goals as goal

pub returns-then-stop-clause-ok : goal.returns-then-stop-clause-ok
returns-then-stop-clause-ok c = let v = view_of c.walk-stop.new.seat in
    (refl, is_at c.args.table.now v c.walk-stop.result.n c.walk-stop.result.at (MatchBool-at_true (HasTable c.args.table.now v c.walk-stop.result.n c.walk-stop.result.at) _ c.if-stop.true c.walk-stop.ensures.stop))

pub returns-clause-claims : goal.returns-clause-claims
returns-clause-claims c =
    let u = view_of c.args.seat.now in
    let m = view_of c.walk-stop.new.seat in
    let v = view_of c.insert_new.new.seat in
    let w = c.walk-stop.ensures in
    let n = c.walk-stop.result.n in
    let e = c.insert_new.ensures in
    let stopped = MatchBool-at_false _ (Reached m n c.walk-stop.result.at × (n ≡ c.walk-stop.result.seen)) c.if-stop.false w.stop in
    let walk = subst (λ (b : Bool). m ≡ after_walk (n + 1 - 0) (cond b 0 1) m.nodes u) c.if-stop.false w.view in
    let absent = subst (Absent c.args.table.now) (front_all m.nodes n (stopped.1 ∙ w.front.1)) w.absent in
    claims_once c.args.table.now u m v (n + 1 - 0) (c.insert_new.result.n - n) walk w.front.0 absent e.grown.1 c.args.self.now.words c.insert_new.result.answer (λ k. k ≡ c.insert_new.result.n)
    (λ _. c.insert_new.result.n ≡ c.insert_new.result.seen) e.ok e.full

pub returns-clause-full : goal.returns-clause-full
returns-clause-full c =
    let u = view_of c.args.seat.now in
    let m = view_of c.walk-stop.new.seat in
    let v = view_of c.insert_new.new.seat in
    let w = c.walk-stop.ensures in
    let n = c.walk-stop.result.n in
    let e = c.insert_new.ensures in
    let stopped = MatchBool-at_false _ (Reached m n c.walk-stop.result.at × (n ≡ c.walk-stop.result.seen)) c.if-stop.false w.stop in
    let walk = subst (λ (b : Bool). m ≡ after_walk (n + 1 - 0) (cond b 0 1) m.nodes u) c.if-stop.false w.view in
    let absent = subst (Absent c.args.table.now) (front_all m.nodes n (stopped.1 ∙ w.front.1)) w.absent in
    full_once c.args.table.now u m v (n + 1 - 0) (c.insert_new.result.n - n) walk w.front.0 absent e.grown.1 c.args.self.now.words c.insert_new.result.answer (c.insert_new.result.n ≡ c.insert_new.result.seen) e.full
