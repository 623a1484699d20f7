use Rattle.std.proofs.Common.{◌≡◌, ◌+◌, ◌≤◌, [], take}
use Rattle.ere_tree.specs.Tree.{Tree}
use Rattle.ere_auto.specs.Seen.{HasSeen}
use Rattle.ere_auto.specs.State.{state_of}
use Rattle.ere_match.proofs.span.wait_through.Given as goal

abbrev pub invariant-loop-index : goal.invariant-loop-index
invariant-loop-index g l = record {
  at : l.automaton.at ≡ l.index;
  waited : l.index ≤ l.fn.automaton.begin;
  steps : l.steps ≡ l.fn.steps + l.index;
  begin : l.automaton.begin ≡ l.fn.automaton.begin;
  seen : (t : Tree) → HasSeen (state_of l.fn.automaton) t [] → HasSeen (state_of l.automaton) t (take l.index l.slice);
}
