use Rattle.std.proofs.Common.{ℕ, List, [], ◌∷◌, ◌++◌}
use Rattle.std.specs.Fmt.{decimal}
use Rattle.index_log.proofs.Texts.{join}
use Rattle.index_log.proofs.printing.push_count.Goals as goal

pub returns-clause-ok : goal.returns-clause-ok
returns-clause-ok c =
    let r = c.push-2.new.self.items in
    let t3 : List ℕ = 10 ∷ [] in
    let k3 = join c.push.new.self.items c.push_number-2.new.out.items r (decimal c.args.count.1) t3 c.in_ok-push_number-2.ensures.ok c.in_ok-push-2.ensures.items in
    let t2 = decimal c.args.count.1 ++ t3 in
    let k2 = join c.push_number.new.out.items c.push.new.self.items r (32 ∷ []) t2 c.in_ok-push.ensures.items k3 in
    let t1 = (32 ∷ []) ++ t2 in
    join c.args.out.now.items c.push_number.new.out.items r (decimal c.args.count.0) t1 c.in_ok-push_number.ensures.ok k2
