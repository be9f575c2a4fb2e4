use Rattle.std.proofs.Common.{◌≡◌, rules}
use Rattle.stabby_layout.specs.Report.{report_eq}
use Rattle.stabby_layout.specs.ReportEquality.{report_decides}
use Rattle.stabby_layout.proofs.ReportLemmas.{answer_decides}
use Rattle.stabby_layout.proofs.report.TypeReportPartialEq.eq.Goals as goal

pub returns-then-eq-clause-same : goal.returns-then-eq-clause-same
returns-then-eq-clause-same c =
    let value : c.eq-then-eq.result ≡ report_eq c.args.self.now c.args.other.now = search rules in
    answer_decides _ _ value (report_decides c.args.self.now c.args.other.now)
