use Rattle.input_dump.proofs.BeginLemmas.{lines_filled, lines_left_out, lines_marked}
use Rattle.input_dump.proofs.rows.line_count.Goals as goal

pub returns-then-marked-clause-exact : goal.returns-then-marked-clause-exact
returns-then-marked-clause-exact c = lines_marked c.args.marked c.args.text.now c.line_behind-end.result c.line_behind-end.ensures c.if-marked.true

pub returns-then-last-text-clause-exact : goal.returns-then-last-text-clause-exact
returns-then-last-text-clause-exact c =
    lines_left_out c.args.marked c.args.text.now c.line_behind-end.result c.line_behind-end.ensures c.line_of-last.result.from
    c.line_of-last.ensures.from c.if-marked.false c.if-last-text.true

pub returns-else-last-text-clause-exact : goal.returns-else-last-text-clause-exact
returns-else-last-text-clause-exact c =
    lines_filled c.args.marked c.args.text.now c.line_behind-end.result c.line_behind-end.ensures c.line_of-last.result.from
    c.line_of-last.ensures.from c.if-last-text.false
