use Rattle.std.proofs.Common.{ℕ, List, drop, subst}
use Rattle.ere_match.specs.Line.{HasLine, TellsLine}
use Rattle.ere_tree.specs.View.{view}
use Rattle.ere_match.proofs.filter.try_once.Goals as goal

pub try_line-requires-clause-line : goal.try_line-requires-clause-line
try_line-requires-clause-line c =
    let one = c.args.one in
    let t = view c.args.ere.now in
    let tells = subst (TellsLine c.split_at.result.1.now (view c.args.free.now) one.span.from) c.in-Some.is c.in_ok-line.ensures in
    subst (λ (x : List ℕ). HasLine x t one.span.from c.in-Some.line) c.split_at.ensures.back (tells t c.requires.spans)
