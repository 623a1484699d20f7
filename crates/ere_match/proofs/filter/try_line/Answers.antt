use Rattle.std.proofs.Common.{drop, sym, subst, arith}
use Rattle.ere_match.proofs.LineLemmas.{line_on}
use Rattle.ere_match.specs.Line.{HasLine}
use Rattle.ere_match.specs.declared.filter.Try.{Try}
use Rattle.ere_tree.specs.View.{view}
use Rattle.ere_match.proofs.filter.try_line.Goals as goal

pub try_at-requires-clause-line : goal.try_at-requires-clause-line
try_at-requires-clause-line c =
    let one = c.args.one in
    let t = view c.args.ere.now in
    let line = c.args.line.now in
    let place = c.loop-place.place in
    subst (λ (o : Try). HasLine (drop o.from c.args.text.now) t o.span.from line) (sym c.at.ensures)
    (line_on (drop one.from c.args.text.now) t one.span.from place line c.requires.line c.loop-place.invariant.from
    (omega (arith, c.loop-place-test.true)))
