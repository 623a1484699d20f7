use Rattle.std.proofs.Common.{◌≡◌, drop, map}
use Rattle.std.specs.FinMap as fin
use Rattle.pattern_parse.specs.PieceView.{items_view, said_view}
use Rattle.pattern_parse.specs.Pieces.{behind_items, items_from, nothing_said}
use Rattle.pattern_parse.specs.RawView.{ending_view, raw_view}
use Rattle.pattern_parse.proofs.parser.read_pieces.Given as goal

abbrev pub invariant-loop-raw : goal.invariant-loop-raw
invariant-loop-raw l =
    behind_items (items_view l.pieces) (items_from l.reader.fold (fin.get l.reader.known.now) l.reader.label (said_view l.said) l.at
    (map (raw_view l.body) (drop l.raw-index l.raws)) (ending_view l.ending))
    ≡ items_from l.reader.fold (fin.get l.reader.known.now) l.reader.label nothing_said 0
    (map (raw_view l.body) l.raws) (ending_view l.ending)
