use Rattle.stabby_count.proofs.Rows.{sole_reads}
use Rattle.stabby_count.proofs.laws.sole_view_reads_one_and_one.Goals as goal

pub returns : goal.returns
returns c = sole_reads
