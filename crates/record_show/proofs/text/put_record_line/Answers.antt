use Rattle.std.proofs.Common.{ℕ, List, [], ◌∷◌, ◌++◌, ap, ◌∙◌, codes}
use Rattle.std.specs.Fmt.{decimal}
use Rattle.record_show.specs.Shown.{quoted, indent}
use Rattle.record_show.proofs.Texts.{join}
use Rattle.record_show.proofs.text.put_record_line.Goals as goal

pub returns : goal.returns
returns c =
    let s = c.args.schema.now in
    let name = c.in_ok-put_name-2.ensures ∙ ap (λ (n : List ℕ). c.extend_from_slice.new.self.items ++ quoted n) c.name.ensures in
    let id = c.in_ok-put_number.ensures ∙ ap (λ (n : ℕ). c.extend_from_slice-2.new.self.items ++ decimal n) c.id.ensures in
    let r = c.push.new.self.items in
    let t8 : List ℕ = 10 ∷ [] in
    let k7 = join c.extend_from_slice-3.new.self.items c.put_number-2.new.out.items r (decimal c.args.offset) t8 c.in_ok-put_number-2.ensures c.in_ok-push.ensures.items in
    let t7 = decimal c.args.offset ++ t8 in
    let k6 = join c.put_number.new.out.items c.extend_from_slice-3.new.self.items r (codes " at ") t7 c.in_ok-extend_from_slice-3.ensures.items k7 in
    let t6 = codes " at " ++ t7 in
    let k5 = join c.extend_from_slice-2.new.self.items c.put_number.new.out.items r (decimal s.id) t6 id k6 in
    let t5 = decimal s.id ++ t6 in
    let k4 = join c.put_name-2.new.out.items c.extend_from_slice-2.new.self.items r (codes " id ") t5 c.in_ok-extend_from_slice-2.ensures.items k5 in
    let t4 = codes " id " ++ t5 in
    let k3 = join c.extend_from_slice.new.self.items c.put_name-2.new.out.items r (quoted s.name) t4 name k4 in
    let t3 = quoted s.name ++ t4 in
    let k2 = join c.put_name.new.out.items c.extend_from_slice.new.self.items r (codes " record ") t3 c.in_ok-extend_from_slice.ensures.items k3 in
    let t2 = codes " record " ++ t3 in
    let k1 = join c.put_indent.new.out.items c.put_name.new.out.items r (quoted c.args.name.now) t2 c.in_ok-put_name.ensures k2 in
    let t1 = quoted c.args.name.now ++ t2 in
    join c.args.out.now.items c.put_indent.new.out.items r (indent c.args.depth) t1 c.in_ok-put_indent.ensures k1
