use Rattle.json_report.proofs.TextLemmas.{names_are_text}
use Rattle.json_report.proofs.counts.outcome_text.Goals as goal

pub unreachable-requires : goal.unreachable-requires
unreachable-requires c =
    c.in-Err.ensures.cases.0 (rw c.name.ensures (names_are_text c.args.outcome))
