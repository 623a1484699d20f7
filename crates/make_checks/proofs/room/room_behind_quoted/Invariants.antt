use Rattle.std.proofs.Common.{◌≡◌, ◌≤◌, ◌+◌, length}
use Rattle.quote_laws.specs.Quote.{quote}
use Rattle.make_checks.proofs.room.room_behind_quoted.Given as goal

-- the room at first, and what stands for the rest, are the room that is left, and what stands for all
abbrev pub invariant-loop-at : goal.invariant-loop-at
invariant-loop-at l = record {
  even : l.room + length (quote l.rest) ≡ l.left + length (quote l.line);
  within : length l.rest ≤ length l.line;
}

abbrev pub decreases-loop-at : goal.decreases-loop-at
decreases-loop-at l = length l.rest
