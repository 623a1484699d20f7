use Rattle.std.proofs.Common.{◌≡◌, false, ◌+◌, ◌<◌, ◌^◌, drop}
use Rattle.std.specs.List.{sum_by}
use Rattle.pattern_parse.specs.PieceView.{items_view}
use Rattle.pattern_parse.specs.Search.{greatest_of}
use Rattle.pattern_instance.specs.Known.{known_in}
use Rattle.pattern_instance.specs.Missing.{uses_names}
use Rattle.pattern_instance.specs.Views.{whole}
use Rattle.pattern_instance.proofs.instance.add_pieces.Given as goal

abbrev pub invariant-loop-piece : goal.invariant-loop-piece
invariant-loop-piece l = record {
  nameless : l.uses ≡ false → uses_names (items_view (drop l.piece-index l.pieces)) ≡ false;
  small : l.made.count + sum_by (λ one. greatest_of one + 2) (items_view (drop l.piece-index l.pieces)) < 2 ^ 31;
  same : whole (known_in l.known) l.made (items_view (drop l.piece-index l.pieces))
      ≡ whole (known_in l.known) l.fn.begun (items_view l.pieces);
}
