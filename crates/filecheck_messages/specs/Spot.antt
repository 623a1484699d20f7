-- Spots: what a message tells of where something stands.
-- Own rule, after the messages of the LLVM Command Guide, FileCheck: the text's name, the place, and the line.
use Rattle.std.specs.Prelude.{ℕ, ◌+◌, ◌-◌, List, take, drop, min}
use Rattle.tt_base.specs.Place.{line_end, line_start, place_at}
use Rattle.filecheck_messages.specs.declared.spot.Spot.{Spot}

-- an offset of a named text
abbrev pub spot_at : List ℕ → List ℕ → ℕ → Spot
spot_at name text at = record {
  name = name;
  place = place_at text at;
  line = take (line_end text at - line_start text at) (drop (line_start text at) text);
}

-- so many bytes behind another spot on its line; columns past the greatest have that one
abbrev pub behind : Spot → ℕ → Spot
behind spot count = record {
  name = spot.name;
  place = record { line = spot.place.line; col = min (spot.place.col + count) 4294967295 };
  line = spot.line;
}
