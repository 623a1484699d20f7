use Rattle.std.proofs.Common.{◌≡◌, take}
use Rattle.ere_tree.specs.Tree.{Tree}
use Rattle.ere_auto.specs.Seen.{HasSeen, IsFor}
use Rattle.ere_auto.specs.State.{state_of}
use Rattle.ere_auto.proofs.auto.Auto.span_from.Given as goal

abbrev pub invariant-loop-index : goal.invariant-loop-index
invariant-loop-index l = record {
  at : l.self.at ≡ l.index;
  begin : l.self.begin ≡ l.fn.place;
  seen : (t : Tree) → IsFor (state_of l.fn.self) t → HasSeen (state_of l.self) t (take l.index l.slice);
}
