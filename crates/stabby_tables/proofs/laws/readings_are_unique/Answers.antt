use Rattle.std.proofs.Common.{sym, ◌∙◌}
use Rattle.stabby_tables.proofs.Texts.{text_unique}
use Rattle.stabby_tables.proofs.Bad.{bad_once}
use Rattle.stabby_tables.proofs.Decides.{tables_once}
use Rattle.stabby_tables.proofs.laws.readings_are_unique.Goals as goal

pub returns : goal.returns
returns c = record {
  lines = λ bytes lines others one other. sym (text_unique bytes lines one) ∙ text_unique bytes others other;
  tables = tables_once;
  bad_line = bad_once;
}
