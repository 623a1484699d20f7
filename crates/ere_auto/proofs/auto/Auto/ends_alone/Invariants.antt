use Rattle.std.proofs.Common.{◌<◌}
use Rattle.ere_tree.specs.Tree.{Tree}
use Rattle.ere_auto.specs.Seen.{IsFor}
use Rattle.ere_auto.specs.State.{state_of}
use Rattle.ere_auto.proofs.AloneLemmas.{AloneAt}
use Rattle.ere_auto.proofs.auto.Auto.ends_alone.Given as goal

abbrev pub invariant-loop-index : goal.invariant-loop-index
invariant-loop-index l = record {
  behind : l.fn.place < l.index;
  alone : (t : Tree) → IsFor (state_of l.fn.self) t
      → AloneAt (state_of l.self) t l.slice l.fn.window l.fn.place l.index l.found.items;
}
