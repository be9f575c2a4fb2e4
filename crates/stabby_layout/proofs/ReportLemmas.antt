-- When a report has a given name and no fields.
use Rattle.std.proofs.Common.{◌≡◌, ℕ, Bool, ◌==◌, ◌∙◌, IsTrue, List, [], ◌∷◌, length, ap, sym, arith}
use Rattle.std.specs.Bool.{Decides}
use Rattle.stabby_layout.specs.declared.report.FieldReport.{FieldReport}
use Rattle.stabby_layout.specs.Report.{Report, without_fields}

pub without_fields_by_parts : (n name : List ℕ) (fields : List FieldReport) (e : Bool) → n ≡ name → e ≡ (length fields == 0)
    → let r : Report = record { name = n; fields = fields } in (IsTrue e → r ≡ without_fields name) × (r ≡ without_fields name → IsTrue e)
without_fields_by_parts n name [] e same empty = (λ _. ap without_fields same, λ _. grind (arith, empty))
without_fields_by_parts n name (f ∷ fs) e same empty = (λ t. absurd (grind (arith, empty, t)), λ h. absurd (grind (arith, ap (λ r. length r.fields) h)))

-- an answer that is a deciding test
pub answer_decides : {P : Type 0} (b test : Bool) → b ≡ test → Decides test P → (IsTrue b → P) × (P → IsTrue b)
answer_decides b test same d = (λ t. d.0 (sym same ∙ t), λ p. same ∙ d.1 p)
