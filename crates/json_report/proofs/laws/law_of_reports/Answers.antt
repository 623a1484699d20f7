use Rattle.json_report.proofs.WholeLemmas.{reports_are_read}
use Rattle.json_report.proofs.laws.law_of_reports.Goals as goal

pub returns : goal.returns
returns c = record { read = reports_are_read }
