use Rattle.std.proofs.Common.{false}
use Rattle.pattern_instance.specs.Known.{known_of}
use Rattle.pattern_scan.proofs.StoredLemmas.{Begins}
use Rattle.pattern_scan.proofs.stored.pieces_text.Given as goal

abbrev pub invariant-loop-piece : goal.invariant-loop-piece
invariant-loop-piece l = Begins (known_of l.vars l.line false) l.pieces l.piece-index l.text
