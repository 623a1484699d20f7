use Rattle.std.proofs.Common.{◌≡◌, ◌≤◌, ◌<◌, ◌-◌, ◌++◌, length, take}
use Rattle.std.specs.Prelude.{All}
use Rattle.std.specs.List.{range_with_len}
use Rattle.check_lines.specs.Chunk.{bits, flagged}
use Rattle.check_lines.proofs.chunk.Row.of.Given as goal

abbrev pub invariant-loop-place : goal.invariant-loop-place
invariant-loop-place l = record {
  long : length l.places ≡ 16;
  few : l.count ≤ l.place;
  small : All (λ place. place < 16) l.places;
  same : take l.count l.places ++ flagged (bits (8 - l.place) l.left) (range_with_len l.place (8 - l.place))
      ≡ flagged (bits 8 l.code) (range_with_len 0 8);
}
