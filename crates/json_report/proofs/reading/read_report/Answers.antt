use Rattle.std.proofs.Common.{true≢false, sym}
use Rattle.serde_json.specs.View.{view}
use Rattle.json_report.proofs.ReportLemmas.{a_value, no_value}
use Rattle.json_report.proofs.reading.read_report.Goals as goal

pub returns-in-Ok : goal.returns-in-Ok
returns-in-Ok c =
    let (text, is) = c.in-Ok.ensures.ok in
    rw (a_value c.args.bytes.now (view c.in-Ok.report) (rw c.unended.ensures at text) (rw c.unended.ensures at is))
    c.report_of.ensures

pub returns-else-is_memory : goal.returns-else-is_memory
returns-else-is_memory c = no_value c.args.bytes.now (λ text.
    rw c.unended.ensures at (c.in-Err.ensures.err (λ memory. true≢false (sym (c.if-is_memory.ensures.1 memory))) (rw (← c.unended.ensures) at text)))
