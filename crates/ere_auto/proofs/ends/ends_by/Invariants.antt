use Rattle.std.proofs.Common.{◌≡◌, IsTrue, take}
use Rattle.std.specs.List.{All}
use Rattle.ere_places.specs.Places.{AreReached, LeadsInside}
use Rattle.ere_places.specs.Seen.{is_beyond, is_held}
use Rattle.ere_places.proofs.ListLemmas.{AreSame}
use Rattle.ere_tree.specs.Tree.{Tree}
use Rattle.ere_auto.specs.Seen.{IsFor}
use Rattle.ere_auto.specs.State.{state_of}
use Rattle.ere_auto.proofs.ends.ends_by.Given as goal

abbrev pub invariant-loop-place : goal.invariant-loop-place
invariant-loop-place l = record {
  kept : (t : Tree) → IsFor (state_of l.fn.automaton) t → IsFor (state_of l.automaton) t;
  held : AreSame (is_held l.seen) l.all.items;
  near : All (λ p. IsTrue (is_beyond l.seen.direction l.seen.base p)) l.from;
  direction : l.seen.direction ≡ l.fn.window.direction;
  found : (t : Tree) → IsFor (state_of l.fn.automaton) t
      → AreReached (LeadsInside l.text t l.fn.window) (take l.place-index l.from) l.all.items;
}
