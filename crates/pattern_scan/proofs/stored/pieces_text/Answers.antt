use Rattle.std.proofs.Common.{arith, false}
use Rattle.pattern_instance.specs.Known.{known_of}
use Rattle.pattern_scan.proofs.StoredLemmas.{all_runs, one_run}
use Rattle.pattern_scan.proofs.stored.pieces_text.Goals as goal

pub loop-piece-preserved : goal.loop-piece-preserved
loop-piece-preserved c =
    one_run (known_of c.args.vars.now c.args.line false) c.args.pieces.now c.loop-piece.piece-index c.piece-item.result
    c.loop-piece.text c.add_piece.new.text c.loop-piece-test.true c.piece-item.is
    (c.in_ok-add_piece.ensures c.if-not-branch.false) c.loop-piece.invariant

pub returns : goal.returns
returns c =
    all_runs (known_of c.args.vars.now c.args.line false) c.args.pieces.now c.loop-piece.piece-index c.loop-piece.text
    (omega (arith, c.loop-piece-test.false)) c.loop-piece.invariant
