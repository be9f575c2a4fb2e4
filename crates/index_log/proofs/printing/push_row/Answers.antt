use Rattle.std.proofs.Common.{ℕ, List, [], ◌∷◌, ◌++◌, ap, ◌∙◌}
use Rattle.std.specs.Fmt.{decimal}
use Rattle.index_log.proofs.Texts.{join}
use Rattle.index_log.proofs.printing.push_row.Goals as goal

pub returns-clause-ok : goal.returns-clause-ok
returns-clause-ok c =
    let row = c.args.row.now in
    let text = c.in_ok-extend_from_slice.ensures.items ∙ ap (λ (l : List ℕ). c.push-2.new.self.items ++ l) (c.as_bytes.ensures.value ∙ c.as_str.ensures) in
    let r = c.push-3.new.self.items in
    let t5 : List ℕ = 10 ∷ [] in
    let k5 = join c.push-2.new.self.items c.extend_from_slice.new.self.items r row.text t5 text c.in_ok-push-3.ensures.items in
    let t4 = row.text ++ t5 in
    let k4 = join c.push_number-2.new.out.items c.push-2.new.self.items r (32 ∷ []) t4 c.in_ok-push-2.ensures.items k5 in
    let t3 = (32 ∷ []) ++ t4 in
    let k3 = join c.push.new.self.items c.push_number-2.new.out.items r (decimal row.group) t3 c.in_ok-push_number-2.ensures.ok k4 in
    let t2 = decimal row.group ++ t3 in
    let k2 = join c.push_number.new.out.items c.push.new.self.items r (32 ∷ []) t2 c.in_ok-push.ensures.items k3 in
    let t1 = (32 ∷ []) ++ t2 in
    join c.args.out.now.items c.push_number.new.out.items r (decimal row.key) t1 c.in_ok-push_number.ensures.ok k2
