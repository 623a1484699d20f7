use Rattle.std.proofs.Common.{◌≡◌, ◌++◌, ℕ, List, drop}
use Rattle.check_program.specs.Names.{names_in}
use Rattle.pattern_instance.specs.Views.{still_told}
use Rattle.pattern_parse.specs.PieceView.{items_view}
use Rattle.check_program.proofs.names.add_check.Given as goal

abbrev pub invariant-loop-piece : goal.invariant-loop-piece
invariant-loop-piece l = (rest : List (List ℕ)) →
    still_told l.names (names_in (items_view (drop l.piece-index l.check.pattern.pieces)) ++ rest)
    ≡ still_told l.fn.names (names_in (items_view l.check.pattern.pieces) ++ rest)
