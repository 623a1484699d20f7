use Rattle.std.proofs.Common.{◌≡◌, ◌∙◌, sym, arith}
use Rattle.input_dump.proofs.LineLemmas.{line_further}
use Rattle.input_dump.proofs.newlines.line_behind.Goals as goal

pub returns : goal.returns
returns c = omega (arith, line_further c.args.text.now c.args.from c.args.at c.requires.ordered, c.requires.known, c.count_of.ensures.value)
