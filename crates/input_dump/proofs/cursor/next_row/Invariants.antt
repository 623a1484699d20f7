use Rattle.std.proofs.Common.{◌≡◌, ◌+◌, ◌-◌, length}
use Rattle.input_dump.specs.Follow.{Follows, HasMark, left}
use Rattle.input_dump.proofs.cursor.next_row.Given as goal

-- what is left is what it was
abbrev pub invariant-loop-cursor : goal.invariant-loop-cursor
invariant-loop-cursor l = record {
  follows : Follows l.subject l.cursor;
  no_mark : ¬ HasMark l.subject l.cursor;
  same : left l.subject l.cursor ≡ left l.subject l.fn.cursor;
}

abbrev pub decreases-loop-cursor : goal.decreases-loop-cursor
decreases-loop-cursor l = length l.subject.text.now + 1 - l.cursor.start
