-- When a value is of a type.
use Rattle.std.specs.Prelude.{◌≡◌, ℕ}
use Rattle.stabby_layout.specs.Report.{Report}

-- a value of this id and this report is of the type that states the other two
abbrev pub IsType : ℕ → Report → ℕ → Report → Type 0
IsType id report stated_id stated_report = (id ≡ stated_id) × (report ≡ stated_report)
