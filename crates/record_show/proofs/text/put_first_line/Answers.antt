use Rattle.std.proofs.Common.{ℕ, List, [], ◌∷◌, ◌++◌, ap, ◌∙◌, codes}
use Rattle.std.specs.Fmt.{decimal}
use Rattle.stabby_layout.specs.declared.layout.Layout.{Layout}
use Rattle.stabby_record.specs.Layouts.{fields_size, fields_align}
use Rattle.record_show.specs.Shown.{quoted}
use Rattle.record_show.proofs.Texts.{join}
use Rattle.record_show.proofs.text.put_first_line.Goals as goal

pub returns : goal.returns
returns c =
    let s = c.args.schema.now in
    let name = c.in_ok-put_name.ensures ∙ ap (λ (n : List ℕ). c.args.out.now.items ++ quoted n) c.name.ensures in
    let id = c.in_ok-put_number.ensures ∙ ap (λ (n : ℕ). c.extend_from_slice.new.self.items ++ decimal n) c.id.ensures in
    let size = c.in_ok-put_number-2.ensures ∙ ap (λ (l : Layout). c.extend_from_slice-2.new.self.items ++ decimal l.size) c.layout-layout.ensures.value in
    let align = c.in_ok-put_number-3.ensures ∙ ap (λ (l : Layout). c.extend_from_slice-3.new.self.items ++ decimal l.align) c.layout-layout.ensures.value in
    let r = c.push.new.self.items in
    let t7 : List ℕ = 10 ∷ [] in
    let k6 = join c.extend_from_slice-3.new.self.items c.put_number-3.new.out.items r (decimal (fields_align s.fields)) t7 align c.in_ok-push.ensures.items in
    let t6 = decimal (fields_align s.fields) ++ t7 in
    let k5 = join c.put_number-2.new.out.items c.extend_from_slice-3.new.self.items r (codes " align ") t6 c.in_ok-extend_from_slice-3.ensures.items k6 in
    let t5 = codes " align " ++ t6 in
    let k4 = join c.extend_from_slice-2.new.self.items c.put_number-2.new.out.items r (decimal (fields_size s.fields)) t5 size k5 in
    let t4 = decimal (fields_size s.fields) ++ t5 in
    let k3 = join c.put_number.new.out.items c.extend_from_slice-2.new.self.items r (codes " size ") t4 c.in_ok-extend_from_slice-2.ensures.items k4 in
    let t3 = codes " size " ++ t4 in
    let k2 = join c.extend_from_slice.new.self.items c.put_number.new.out.items r (decimal s.id) t3 id k3 in
    let t2 = decimal s.id ++ t3 in
    let k1 = join c.put_name.new.out.items c.extend_from_slice.new.self.items r (codes " id ") t2 c.in_ok-extend_from_slice.ensures.items k2 in
    let t1 = codes " id " ++ t2 in
    join c.args.out.now.items c.put_name.new.out.items r (quoted s.name) t1 name k1
