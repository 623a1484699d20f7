use Rattle.std.proofs.Common.{ap, ◌∙◌, sym}
use Rattle.pattern_parse.specs.Item.{plain}
use Rattle.pattern_parse.specs.PieceView.{item_view}
use Rattle.check_group.proofs.RegionLemmas.{has_at}
use Rattle.check_group.proofs.region.lack_a_piece.Goals as goal

pub returns-then-lack : goal.returns-then-lack
returns-then-lack c = λ told.
    record {
      bytes = c.as_slice.result.now;
      has = has_at c.args.pieces.now c.loop-piece.piece-index c.piece-item.result c.as_slice.result.now
          c.loop-piece-test.true c.piece-item.is
          (ap item_view c.in-Plain.is ∙ ap plain (sym c.as_slice.ensures));
      lack = c.lack.ensures c.if-lack.true;
    }
