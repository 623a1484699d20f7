use Rattle.std.proofs.Common.{◌≡◌, false, length}
use Rattle.ere_auto.specs.State.{state_of}
use Rattle.ere_match.specs.Filter.{IsFilter, MayLie}
use Rattle.ere_relaxed.specs.Relaxed.{SpansAll}
use Rattle.ere_tree.specs.Shape.{has_refs}
use Rattle.ere_tree.specs.View.{view}
use Rattle.ere_match.proofs.FilterLemmas.{left_of}
use Rattle.ere_match.proofs.filter.find_filtered.Given as goal

abbrev pub invariant-loop-found : goal.invariant-loop-found
invariant-loop-found g l = record {
  no_refs : has_refs (view l.free) ≡ false;
  spans : SpansAll (view l.ere) (view l.free);
  built : IsFilter (state_of l.filter.automaton) (view l.ere);
  lies : MayLie l.slice (view l.ere) l.found;
}

abbrev pub decreases-loop-found : goal.decreases-loop-found
decreases-loop-found g l = left_of (length l.slice) l.found
