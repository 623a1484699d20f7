use Rattle.std.proofs.Common.{◌≡◌, ◌≤◌, ◌+◌}
use Rattle.tt_base.specs.Place.{place_at}
use Rattle.tt_tests.proofs.plain.plain_place.Given as goal

abbrev pub invariant-loop-byte : goal.invariant-loop-byte
invariant-loop-byte l = record {
  is : l.place ≡ place_at l.text l.byte-index;
  line_fits : l.place.line ≤ l.byte-index + 1;
  col_fits : l.place.col ≤ l.byte-index + 1;
}
