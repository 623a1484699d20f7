use Rattle.std.proofs.Common.{◌-◌, length}
use Rattle.check_lines.proofs.ChecksLemmas.{ReadBefore}
use Rattle.check_lines.proofs.checks.read_lines.Given as goal

abbrev pub invariant-loop-found : goal.invariant-loop-found
invariant-loop-found l =
    ReadBefore l.rules.prefixes.checks.prefixes.now l.rules.prefixes.comments.prefixes.now l.rules.keep_blanks l.text l.directives l.earlier
    l.number l.start

abbrev pub decreases-loop-found : goal.decreases-loop-found
decreases-loop-found l = length l.text - l.start
