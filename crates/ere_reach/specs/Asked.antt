-- What is kept of expressions without references, to tell where they end.
-- Own rule: an automaton that is kept serves the expression that it was made of.
use Rattle.std.specs.Prelude.{◌≡◌, Some}
use Rattle.std.specs.List.{All}
use Rattle.ere_auto.specs.declared.auto.Auto.{Auto}
use Rattle.ere_auto.specs.Seen.{IsFor}
use Rattle.ere_auto.specs.State.{state_of}
use Rattle.ere_tree.specs.View.{view}
use Rattle.ere_reach.specs.declared.asked.Asked.{Asked}
use Rattle.ere_reach.specs.declared.asked.AskedEnds.{AskedEnds}

-- the automaton, if there is one, is that of the expression
abbrev pub IsBuilt : Asked → Type 0
IsBuilt asked = (automaton : Auto) → asked.automaton ≡ Some automaton → IsFor (state_of automaton) (view asked.ere.now)

abbrev pub AreBuilt : AskedEnds → Type 0
AreBuilt asked = All IsBuilt asked.all.items
