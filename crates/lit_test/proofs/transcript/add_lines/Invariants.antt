use Rattle.std.proofs.Common.{◌≡◌, ◌++◌, length}
use Rattle.lit_test.specs.Transcript.{lines_text}
use Rattle.lit_test.proofs.transcript.add_lines.Given as goal

abbrev pub invariant-loop-run : goal.invariant-loop-run
invariant-loop-run l =
    l.text ++ lines_text l.line l.left l.began l.told ≡ l.fn.text ++ lines_text 0 l.runs l.began l.told

abbrev pub decreases-loop-run : goal.decreases-loop-run
decreases-loop-run l = length l.left
