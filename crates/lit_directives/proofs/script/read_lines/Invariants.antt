use Rattle.std.proofs.Common.{◌≡◌, ◌≤◌, ◌+◌, ◌-◌, drop, length}
use Rattle.std.specs.List.{slice_split}
use Rattle.tt_base.specs.Place.{is_newline}
use Rattle.lit_directives.specs.Script.{after_all, beginning, directives_from, directives_of, reader_view}
use Rattle.lit_directives.proofs.script.read_lines.Given as goal

abbrev pub invariant-loop-fail : goal.invariant-loop-fail
invariant-loop-fail l = record {
  within : l.start ≤ length l.bytes;
  counted : l.number ≤ l.start + 1;
  rest : after_all (reader_view l.reader) (directives_from l.number (slice_split is_newline (drop l.start l.bytes)))
      ≡ after_all beginning (directives_of l.bytes);
}

abbrev pub decreases-loop-fail : goal.decreases-loop-fail
decreases-loop-fail l = length l.bytes - l.start
