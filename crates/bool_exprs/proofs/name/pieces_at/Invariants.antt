use Rattle.std.proofs.Common.{length, ◌-◌, ◌≡◌, ◌≤◌, drop, map}
use Rattle.bool_exprs.specs.Piece.{pieces_from}
use Rattle.bool_exprs.specs.View.{piece_view}
use Rattle.bool_exprs.proofs.PieceLemmas.{before}
use Rattle.bool_exprs.proofs.name.pieces_at.Given as goal

abbrev pub invariant-loop-done : goal.invariant-loop-done
invariant-loop-done l = record {
  within : l.done ≤ length l.text;
  rest : before (map piece_view l.pieces) l.done (pieces_from 0 (drop l.done l.text)) ≡ pieces_from 0 l.text;
}

abbrev pub decreases-loop-done : goal.decreases-loop-done
decreases-loop-done l = length l.text - l.done
