use Rattle.std.proofs.Common.{◌≡◌}
use Rattle.check_lint.proofs.run.answer_from.Given as goal

abbrev pub invariant-loop-word : goal.invariant-loop-word
invariant-loop-word g l = g.F.Files.held l.files ≡ g.F.Files.held l.fn.files

abbrev pub invariant-loop-word-2 : goal.invariant-loop-word-2
invariant-loop-word-2 g l = g.F.Files.held l.files ≡ g.F.Files.held l.fn.files
