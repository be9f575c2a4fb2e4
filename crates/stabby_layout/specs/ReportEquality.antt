-- The equality of reports is that of their values.
use Rattle.std.specs.Prelude.{◌≡◌, ℕ, List, Bool, true, ◌&&◌, ◌==◌, nat_eq}
use Rattle.std.specs.Bool.{Decides}
use Rattle.std.specs.Cmp.{first_so, second_so, unsigned_Decides}
use Rattle.std.specs.Cmp.Lexicographic.{pointwise, pointwise_decides}
use Rattle.std.proofs.Common.{ap, ◌∙◌}
use Rattle.stabby_layout.specs.declared.layout.Layout.{Layout}
use Rattle.stabby_layout.specs.declared.report.FieldReport.{FieldReport}
use Rattle.stabby_layout.specs.Report.{Report, field_eq, report_eq}

both : (s t : Bool) → s ≡ true → t ≡ true → (s && t) ≡ true
both s t p q = ap (λ b. b && t) p ∙ q

names_decide : (x y : List ℕ) → Decides (pointwise nat_eq x y) (x ≡ y)
names_decide = pointwise_decides unsigned_Decides

same_layout : (x y : Layout) → x.size ≡ y.size → x.align ≡ y.align → x ≡ y
same_layout x y p q = λ i. record { size = p i; align = q i }

same_field : (x y : FieldReport) → x.name ≡ y.name → x.id ≡ y.id → x.layout ≡ y.layout → x ≡ y
same_field x y p q r = λ i. record { name = p i; id = q i; layout = r i }

same_report : (x y : Report) → x.name ≡ y.name → x.fields ≡ y.fields → x ≡ y
same_report x y p q = λ i. record { name = p i; fields = q i }

pub field_decides : (x y : FieldReport) → Decides (field_eq x y) (x ≡ y)
field_decides x y =
    let name = pointwise nat_eq x.name y.name in
    let id = x.id == y.id in
    let size = x.layout.size == y.layout.size in
    let align = x.layout.align == y.layout.align in
    let numbers : ℕ → ℕ → Bool = nat_eq in (
      λ e. same_field x y
          ((names_decide x.name y.name).0 (first_so name _ e))
          ((unsigned_Decides x.id y.id).0 (first_so id _ (second_so name _ e)))
          (same_layout x.layout y.layout
          ((unsigned_Decides x.layout.size y.layout.size).0 (first_so size _ (second_so id _ (second_so name _ e))))
          ((unsigned_Decides x.layout.align y.layout.align).0 (second_so size align (second_so id _ (second_so name _ e))))),
      λ e. both name _ ((names_decide x.name y.name).1 (ap (λ f. f.name) e))
          (both id _ ((unsigned_Decides x.id y.id).1 (ap (λ f. f.id) e))
          (both size align ((unsigned_Decides x.layout.size y.layout.size).1 (ap (λ f. f.layout.size) e))
          ((unsigned_Decides x.layout.align y.layout.align).1 (ap (λ f. f.layout.align) e)))),
    )

pub report_decides : (x y : Report) → Decides (report_eq x y) (x ≡ y)
report_decides x y =
    let name = pointwise nat_eq x.name y.name in
    let fields = pointwise field_eq x.fields y.fields in
    let each : Decides fields (x.fields ≡ y.fields) = pointwise_decides field_decides x.fields y.fields in (
      λ e. same_report x y ((names_decide x.name y.name).0 (first_so name fields e)) (each.0 (second_so name fields e)),
      λ e. both name fields ((names_decide x.name y.name).1 (ap (λ r. r.name) e)) (each.1 (ap (λ r. r.fields) e)),
    )
