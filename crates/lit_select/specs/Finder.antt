-- How an expression is looked for.
-- Own rule: one without references by its automaton.
use Rattle.std.specs.Prelude.{◌≡◌, true, false}
use Rattle.ere_auto.specs.Seen as seen
use Rattle.ere_auto.specs.State.{state_of}
use Rattle.ere_tree.specs.Shape.{has_refs}
use Rattle.ere_tree.specs.Tree.{Tree}
use Rattle.lit_select.specs.declared.finder.Finder.{Finder}
use Rattle.lit_select.specs.declared.finder.Finder.TheVariants.{Automaton, Derivations}

-- the finder finds the hits of this tree
abbrev pub IsFor : Finder → Tree → Type 0
IsFor (Automaton search) t = (has_refs t ≡ false) × seen.IsFor (state_of search.automaton) t
IsFor Derivations t = has_refs t ≡ true
