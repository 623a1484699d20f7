use Rattle.std.proofs.Common.{List, ℕ, ◌≡◌, ◌≤◌, ◌++◌, length}
use Rattle.quote_laws.specs.Quote.{quote}
use Rattle.tt_pieces.specs.Telling.{Tells, state}
use Rattle.make_checks.proofs.quoting.put_quoted.Given as goal

-- what was told, and what stands for the rest, is what stands for the line
abbrev pub invariant-loop-at : goal.invariant-loop-at
invariant-loop-at g l = record {
  text : List ℕ;
  so_far : text ++ quote l.rest ≡ quote l.line;
  within : length l.rest ≤ length l.line;
  told : Tells text (state g.S.Sink l.fn.pen l.fn.sink) (state g.S.Sink l.pen l.sink);
}

abbrev pub decreases-loop-at : goal.decreases-loop-at
decreases-loop-at g l = length l.rest
