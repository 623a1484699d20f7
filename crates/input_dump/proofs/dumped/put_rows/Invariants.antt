use Rattle.std.proofs.Common.{List, ℕ, ◌≡◌, ◌++◌, length}
use Rattle.tt_pieces.specs.Telling.{Tells, state}
use Rattle.input_dump.proofs.dumped.put_rows.Given as goal

-- what was told and the rows that are left are all of them
abbrev pub invariant-loop-row : goal.invariant-loop-row
invariant-loop-row g l = record {
  text : List ℕ;
  whole : text ++ l.rows ≡ l.fn.rows;
  told : Tells text (state g.S.Sink l.fn.pen l.fn.sink) (state g.S.Sink l.pen l.sink);
}

abbrev pub decreases-loop-row : goal.decreases-loop-row
decreases-loop-row g l = length l.rows
