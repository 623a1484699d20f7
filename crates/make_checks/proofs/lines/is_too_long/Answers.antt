use Rattle.std.proofs.Common.{sym}
use Rattle.make_checks.proofs.QuoteLemmas.{long_line, roomy_line, short_line}
use Rattle.make_checks.proofs.lines.is_too_long.Goals as goal

pub returns-then-line-le-SHORT : goal.returns-then-line-le-SHORT
returns-then-line-le-SHORT c = sym (short_line c.args.line.now c.if-line-le-SHORT.true)

pub returns-in-Some : goal.returns-in-Some
returns-in-Some c = sym (roomy_line c.args.line.now c.in-Some.field-0 c.in-Some.ensures)

pub returns-in-None : goal.returns-in-None
returns-in-None c = sym (long_line c.args.line.now c.in-None.ensures)
