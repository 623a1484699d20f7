use Rattle.std.proofs.Common.{◌≡◌, drop}
use Rattle.pattern_parse.specs.PieceView.{items_view}
use Rattle.pattern_instance.specs.Known.{known_in}
use Rattle.pattern_instance.specs.Missing.{missing}
use Rattle.pattern_instance.specs.Views.{told_with}
use Rattle.pattern_instance.proofs.missing.missing_names.Given as goal

abbrev pub invariant-loop-piece : goal.invariant-loop-piece
invariant-loop-piece l =
    told_with l.missing (known_in l.known) l.defined (items_view (drop l.piece-index l.pieces))
    ≡ missing (known_in l.known) (items_view l.pieces)
