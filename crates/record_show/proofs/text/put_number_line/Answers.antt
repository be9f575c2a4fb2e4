use Rattle.std.proofs.Common.{ℕ, List, [], ◌∷◌, ◌++◌, ap, ◌∙◌, codes}
use Rattle.std.specs.Fmt.{decimal}
use Rattle.record_show.specs.Shown.{quoted, indent, plain_name}
use Rattle.record_show.proofs.Texts.{join}
use Rattle.record_show.proofs.text.put_number_line.Goals as goal

pub returns : goal.returns
returns c =
    let f = c.args.field.now in
    let kind = c.in_ok-extend_from_slice.ensures.items ∙ ap (λ (l : List ℕ). c.push.new.self.items ++ l) c.plain_name.ensures in
    let r = c.push-2.new.self.items in
    let t8 : List ℕ = 10 ∷ [] in
    let k7 = join c.extend_from_slice-3.new.self.items c.put_number-2.new.out.items r (decimal c.args.number) t8 c.in_ok-put_number-2.ensures c.in_ok-push-2.ensures.items in
    let t7 = decimal c.args.number ++ t8 in
    let k6 = join c.put_number.new.out.items c.extend_from_slice-3.new.self.items r (codes " = ") t7 c.in_ok-extend_from_slice-3.ensures.items k7 in
    let t6 = codes " = " ++ t7 in
    let k5 = join c.extend_from_slice-2.new.self.items c.put_number.new.out.items r (decimal c.args.offset) t6 c.in_ok-put_number.ensures k6 in
    let t5 = decimal c.args.offset ++ t6 in
    let k4 = join c.extend_from_slice.new.self.items c.extend_from_slice-2.new.self.items r (codes " at ") t5 c.in_ok-extend_from_slice-2.ensures.items k5 in
    let t4 = codes " at " ++ t5 in
    let k3 = join c.push.new.self.items c.extend_from_slice.new.self.items r (plain_name f.kind) t4 kind k4 in
    let t3 = plain_name f.kind ++ t4 in
    let k2 = join c.put_name.new.out.items c.push.new.self.items r ((32 ∷ [])) t3 c.in_ok-push.ensures.items k3 in
    let t2 = (32 ∷ []) ++ t3 in
    let k1 = join c.put_indent.new.out.items c.put_name.new.out.items r (quoted f.name) t2 c.in_ok-put_name.ensures k2 in
    let t1 = quoted f.name ++ t2 in
    join c.args.out.now.items c.put_indent.new.out.items r (indent c.args.depth) t1 c.in_ok-put_indent.ensures k1
