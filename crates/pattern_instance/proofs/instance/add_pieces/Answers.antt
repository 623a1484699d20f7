use Rattle.std.proofs.Common.{◌≡◌, false, ◌+◌, drop, subst}
use Rattle.pattern_parse.specs.PieceView.{item_view, items_view}
use Rattle.pattern_instance.specs.Known.{known_in}
use Rattle.pattern_instance.specs.Missing.{uses_names}
use Rattle.pattern_instance.specs.Views.{Added, whole}
use Rattle.pattern_instance.proofs.PiecesLemmas.{nameless_next, one_fault, one_more, room_here, room_left}
use Rattle.pattern_instance.proofs.instance.add_pieces.Goals as goal

pub add_piece-requires : goal.add_piece-requires
add_piece-requires c =
    room_here c.args.pieces.now c.loop-piece.piece-index c.loop-piece.made.count c.piece-item.result
    c.loop-piece-test.true c.piece-item.is c.loop-piece.invariant.small

pub returns-in-Err : goal.returns-in-Err
returns-in-Err c =
    let known = known_in c.args.known.now in
    one_fault known c.args.pieces.now c.loop-piece.piece-index c.loop-piece.made c.piece-item.result
    (whole known c.args.begun (items_view c.args.pieces.now)) c.in-Err.fault
    c.loop-piece-test.true c.piece-item.is c.loop-piece.invariant.same
    (let next = items_view (drop (c.loop-piece.piece-index + 1) c.args.pieces.now) in
    subst (λ r. Added known c.loop-piece.made c.add_piece.new.made (item_view c.piece-item.result) next r)
    c.in-Err.is (c.in_ok-fault.ensures.added next
    (λ no. nameless_next c.args.pieces.now c.loop-piece.piece-index c.piece-item.result c.loop-piece-test.true
    c.piece-item.is (c.loop-piece.invariant.nameless no))))

pub loop-piece-preserved : goal.loop-piece-preserved
loop-piece-preserved c =
    let known = known_in c.args.known.now in
    let next = items_view (drop (c.loop-piece.piece-index + 1) c.args.pieces.now) in
    let nameless : c.args.uses ≡ false → uses_names next ≡ false = λ no.
    nameless_next c.args.pieces.now c.loop-piece.piece-index c.piece-item.result c.loop-piece-test.true c.piece-item.is
    (c.loop-piece.invariant.nameless no) in
    record {
      nameless = nameless;
      small = room_left c.args.pieces.now c.loop-piece.piece-index c.loop-piece.made.count c.add_piece.new.made.count
          c.piece-item.result c.loop-piece-test.true c.piece-item.is c.loop-piece.invariant.small
          c.in_ok-fault.ensures.count;
      same = one_more known c.args.pieces.now c.loop-piece.piece-index c.loop-piece.made c.add_piece.new.made
          c.piece-item.result (whole known c.args.begun (items_view c.args.pieces.now))
          c.loop-piece-test.true c.piece-item.is c.loop-piece.invariant.same
          (subst (λ r. Added known c.loop-piece.made c.add_piece.new.made (item_view c.piece-item.result) next r)
          c.in_default.is (c.in_ok-fault.ensures.added next nameless));
    }
