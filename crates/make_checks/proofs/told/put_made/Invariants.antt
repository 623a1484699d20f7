use Rattle.std.proofs.Common.{List, ℕ, ◌≡◌, ◌++◌, length}
use Rattle.file_laws.specs.Made.{made_text}
use Rattle.make_checks.specs.Directives.{directives_left, text_left}
use Rattle.make_checks.specs.Made.{lines_in}
use Rattle.tt_pieces.specs.Telling.{Tells, state}
use Rattle.make_checks.proofs.told.put_made.Given as goal

-- what was told and the directives that are left are all of them
abbrev pub invariant-loop-directive : goal.invariant-loop-directive
invariant-loop-directive g l = record {
  text : List ℕ;
  whole : text ++ text_left l.lead l.left ≡ made_text l.lead (lines_in l.lines);
  told : Tells text (state g.S.Sink l.fn.pen l.fn.sink) (state g.S.Sink l.pen l.sink);
}

abbrev pub decreases-loop-directive : goal.decreases-loop-directive
decreases-loop-directive g l = length (directives_left l.left)
