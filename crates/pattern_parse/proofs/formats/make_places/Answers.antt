use Rattle.std.proofs.Common.{◌∙◌, arith, subst, sym}
use Rattle.pattern_parse.specs.Formats.{HasPlace, HasPlaces}
use Rattle.pattern_parse.proofs.FormatsLemmas.{has_place_stays, no_places, split_pieces}
use Rattle.pattern_parse.proofs.formats.make_places.Goals as goal

pub loop-piece-preserved : goal.loop-piece-preserved
loop-piece-preserved c =
    let placed : HasPlace c.make_piece_place.new.held.entries c.piece-item.result =
    c.in_ok-make_piece_place.ensures.made in
    let here = split_pieces c.args.pieces.now c.loop-piece.piece-index c.piece-item.result c.loop-piece-test.true
    c.piece-item.is in
    record {
      same = c.make_piece_place.ensures.same ∙ c.loop-piece.invariant.same;
      made = λ es stays has. c.loop-piece.invariant.made es
          (λ q there. stays q (c.make_piece_place.ensures.stays q there))
          (subst (HasPlaces es) (sym here)
          (has_place_stays c.make_piece_place.new.held.entries es stays c.piece-item.result placed, has));
    }

pub returns-clause-made : goal.returns-clause-made
returns-clause-made c =
    c.loop-piece.invariant.made c.loop-piece.held.entries (λ q there. there)
    (no_places c.loop-piece.held.entries c.args.pieces.now c.loop-piece.piece-index
    (omega (arith, c.loop-piece-test.false)))
