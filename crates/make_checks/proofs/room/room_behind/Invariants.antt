use Rattle.std.proofs.Common.{◌≡◌, ◌+◌, length}
use Rattle.file_laws.specs.Made.{made_text}
use Rattle.make_checks.specs.Directives.{directives_left, text_left}
use Rattle.make_checks.specs.Made.{lines_in}
use Rattle.make_checks.proofs.room.room_behind.Given as goal

-- the room at first, and what is left, are the room that is left, and all of it
abbrev pub invariant-loop-directive : goal.invariant-loop-directive
invariant-loop-directive l = l.fn.room + length (text_left l.lead l.left) ≡ l.room + length (made_text l.lead (lines_in l.lines))

abbrev pub decreases-loop-directive : goal.decreases-loop-directive
decreases-loop-directive l = length (directives_left l.left)
