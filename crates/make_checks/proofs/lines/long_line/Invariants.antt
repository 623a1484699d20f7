use Rattle.std.proofs.Common.{◌≡◌, ◌+◌, ◌≤◌, length}
use Rattle.std.specs.List.{position_from, slice_split}
use Rattle.tt_base.specs.Place.{is_newline}
use Rattle.file_laws.specs.Made.{is_too_long}
use Rattle.make_checks.proofs.lines.long_line.Given as goal

-- the first of what is left is the first of all
abbrev pub invariant-loop-behind : goal.invariant-loop-behind
invariant-loop-behind l = record {
  found : position_from is_too_long l.number (slice_split is_newline l.rest)
      ≡ position_from is_too_long 1 (slice_split is_newline l.text);
  within : length l.rest ≤ length l.text;
  small : l.number + length l.rest ≤ length l.text + 1;
}

abbrev pub decreases-loop-behind : goal.decreases-loop-behind
decreases-loop-behind l = length l.rest
