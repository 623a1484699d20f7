use Rattle.std.proofs.Common.{◌≡◌, List, Option, drop}
use Rattle.std.specs.Prelude.{ℕ, Vec}
use Rattle.std.specs.declared.alloc.Global.{Global}
use Rattle.num_base.specs.declared.format.Format.{Format}
use Rattle.pattern_parse.specs.Formats.{HasPlaces, Stays, by_places}
use Rattle.pattern_parse.proofs.formats.make_places.Given as goal

abbrev pub invariant-loop-piece : goal.invariant-loop-piece
invariant-loop-piece l = record {
  same : by_places l.held.entries ≡ by_places l.fn.held.entries;
  made : (es : List (Vec ℕ Global × Option Format)) → Stays l.held.entries es
      → HasPlaces es (drop l.piece-index l.pieces) → HasPlaces es l.pieces;
}
