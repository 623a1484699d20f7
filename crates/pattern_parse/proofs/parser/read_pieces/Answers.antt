use Rattle.std.proofs.Common.{◌∙◌, [], ◌∷◌, ap, arith, sym}
use Rattle.std.proofs.lemmas.List.{map-append}
use Rattle.std.specs.FinMap as fin
use Rattle.pattern_parse.specs.PieceView.{item_view, items_view, said_view}
use Rattle.pattern_parse.specs.RawView.{ending_view}
use Rattle.pattern_parse.proofs.PieceLemmas.{get_same, one_more, over_end, refused_end, refused_here}
use Rattle.pattern_parse.proofs.parser.read_pieces.Goals as goal

pub returns-in-Err : goal.returns-in-Err
returns-in-Err c =
    let r = c.args.reader.now in
    let read = rw c.in-Err.is at c.in_ok-piece.ensures in
    sym (refused_here r.fold (fin.get r.known.now) r.label c.args.body.now (ending_view c.args.ending)
    c.args.raws.now _ (items_view c.loop-raw.pieces) (said_view c.loop-raw.said) c.loop-raw.at c.loop-raw.raw-index
    _ c.in-Err.fault c.loop-raw-test.true (get_same c.args.raws.now c.loop-raw.raw-index _ c.loop-raw-test.true)
    c.loop-raw.invariant read)

pub loop-raw-preserved : goal.loop-raw-preserved
loop-raw-preserved c =
    let r = c.args.reader.now in
    let read = rw c.in-Ok.is at c.in_ok-piece.ensures in
    one_more r.fold (fin.get r.known.now) r.label c.args.body.now (ending_view c.args.ending)
    c.args.raws.now _ (items_view c.loop-raw.pieces) (said_view c.loop-raw.said) c.loop-raw.at c.loop-raw.raw-index
    _ (item_view c.in-Ok.piece) (said_view c.read_next.new.said) c.in_ok-at.at (items_view c.push.new.self)
    c.loop-raw-test.true (get_same c.args.raws.now c.loop-raw.raw-index _ c.loop-raw-test.true)
    c.loop-raw.invariant read c.in_ok-at.ensures
    (ap items_view c.in_ok-push-in-Ok.ensures.ok ∙ map-append item_view c.loop-raw.pieces (c.in-Ok.piece ∷ []))

pub returns-in-Some : goal.returns-in-Some
returns-in-Some c =
    let r = c.args.reader.now in
    refused_end r.fold (fin.get r.known.now) r.label c.args.body.now (ending_view c.args.ending)
    c.args.raws.now _ (items_view c.loop-raw.pieces) (said_view c.loop-raw.said) c.loop-raw.at c.loop-raw.raw-index
    c.in-Some.fault (omega (arith, c.loop-raw-test.false)) c.loop-raw.invariant (sym c.ended.ensures ∙ c.in-Some.is)

pub returns : goal.returns
returns c =
    let r = c.args.reader.now in
    over_end r.fold (fin.get r.known.now) r.label c.args.body.now (ending_view c.args.ending)
    c.args.raws.now _ (items_view c.loop-raw.pieces) (said_view c.loop-raw.said) c.loop-raw.at c.loop-raw.raw-index
    (omega (arith, c.loop-raw-test.false)) c.loop-raw.invariant (sym c.ended.ensures ∙ c.in-None.is)
