use Rattle.toml.specs.View.{table_view}
use Rattle.lit_suite.proofs.SuiteLemmas.{a_table, no_text}
use Rattle.lit_suite.proofs.reading.read_suite.Goals as goal

pub returns-in_default : goal.returns-in_default
returns-in_default c = no_text c.args.bytes.now c.in_default.ensures.cases.0

pub returns-in-Ok-table_from_str : goal.returns-in-Ok-table_from_str
returns-in-Ok-table_from_str c =
    let (same, text) = c.in-Ok.ensures.cases in
    let parsed = rw same at c.in-Ok-table_from_str.ensures.ok in
    rw (a_table c.args.bytes.now (table_view c.in-Ok-table_from_str.table) text parsed) c.suite_of.ensures
