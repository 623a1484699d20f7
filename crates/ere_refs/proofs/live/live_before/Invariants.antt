use Rattle.std.proofs.Common.{◌≡◌, ℕ, false, take}
use Rattle.std.specs.List.{Contains}
use Rattle.ere_refs.specs.Live.{surely_sets}
use Rattle.ere_refs.specs.Refers.{Refers}
use Rattle.ere_tree.specs.View.{view}
use Rattle.ere_refs.proofs.live.live_before.Given as goal

abbrev pub invariant-loop-number : goal.invariant-loop-number
invariant-loop-number l = record {
  refers : (n : ℕ) → Refers (view l.ere) n → Contains l.live.items n;
  behind : (n : ℕ) → Contains (take l.number-index l.behind) n → surely_sets (view l.ere) n ≡ false
      → Contains l.live.items n;
}
