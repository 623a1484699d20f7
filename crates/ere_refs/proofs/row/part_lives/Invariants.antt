use Rattle.std.proofs.Common.{◌≡◌, ℕ, ◌<◌, Vec, Global, map, drop, length, get_or}
use Rattle.std.specs.List.{Contains}
use Rattle.ere_refs.specs.Live.{reads_all}
use Rattle.ere_tree.specs.Tree.{trees_of}
use Rattle.ere_tree.specs.View.{view}
use Rattle.ere_refs.proofs.row.part_lives.Given as goal

abbrev pub invariant-loop-stage : goal.invariant-loop-stage
invariant-loop-stage l = record {
  count : length l.lives.items ≡ l.stage;
  lives : (k : ℕ) (one : Vec ℕ Global) → k < l.stage → one ≡ get_or l.lives.items k one → (n : ℕ)
      → reads_all (trees_of (drop k (map view l.parts))) (Contains l.behind) n → Contains one.items n;
}
