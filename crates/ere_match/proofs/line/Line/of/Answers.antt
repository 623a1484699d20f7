use Rattle.std.proofs.Common.{arith}
use Rattle.ere_tree.specs.View.{view}
use Rattle.ere_match.proofs.LineLemmas.{line_of}
use Rattle.ere_match.proofs.line.Line.of.Goals as goal

pub returns : goal.returns
returns c = λ t spans.
    line_of c.args.slice.now t (view c.args.free.now) c.args.low
    (record { high = c.last_end-high.result; begins = c.in_ok-begins.begins }) (λ i low. omega (arith, c.type_inv.slice i)) spans
    c.last_end-high.ensures c.in_ok-begins.ensures
