use Rattle.std.proofs.Common.{length}
use Rattle.std.specs.List.{slice_split}
use Rattle.tt_base.specs.Place.{is_newline}
use Rattle.make_checks.specs.Made.{NoneIsLong}
use Rattle.make_checks.proofs.lines.are_short.Given as goal

-- no line is too long where none of the rest is
abbrev pub invariant-loop-rest : goal.invariant-loop-rest
invariant-loop-rest l = NoneIsLong (slice_split is_newline l.rest) → NoneIsLong (slice_split is_newline l.text)

abbrev pub decreases-loop-rest : goal.decreases-loop-rest
decreases-loop-rest l = length l.rest
