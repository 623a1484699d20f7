-- Laws of expressions.
use Rattle.std.specs.Prelude.{◌≡◌, ℕ, Bool, List, ◌++◌, Ok, Err, ◌≤◌, length, take, ◌↔◌}
use Rattle.ere_tree.specs.Grammar.{reading, tree_read}
use Rattle.ere_tree.specs.Hit.{TellsHit}
use Rattle.ere_tree.specs.Productions.{Takes}
use Rattle.ere_tree.specs.Token.{Token}
use Rattle.ere_tree.specs.Tree.{Tree}
use Rattle.ere_tree.specs.declared.fault.EreFault.{EreFault}
use Rattle.ere_tree.specs.declared.hit.Hit.{Hit}
use Rattle.ere_laws.specs.Spelling.{SpellsToken}

-- The law of tokens: a token is read at the front of a text exactly where the productions spell it there. So the
-- productions of expressions, which go by tokens, stand on bytes.
abbrev pub TokensAreSpelled : Type 0
TokensAreSpelled = (text : List ℕ) (t : Token) (rest : List ℕ) → Takes text t rest ↔ SpellsToken text t rest

-- The law of faults: the place of a text's first fault lies in the text, or at its end.
abbrev pub FaultsLieWithin : Type 0
FaultsLieWithin =
    (fold : Bool) (text : List ℕ) (refused : EreFault) → reading fold text ≡ Err refused → refused.at ≤ length text

-- the text is read, whatever its size
abbrev pub IsRead : Bool → List ℕ → Type 0
IsRead fold text = (t : Tree) × (tree_read fold text ≡ Ok t)

-- The law of what stands before a fault: with some bytes behind it, it is read. So what is refused is refused at no later
-- place than it has to be, and nothing is told that comes behind another fault.
abbrev pub FaultsComeFirst : Type 0
FaultsComeFirst =
    (fold : Bool) (text : List ℕ) (refused : EreFault) → reading fold text ≡ Err refused
    → (more : List ℕ) × IsRead fold (take refused.at text ++ more)

-- The law of hits: a hit lies in its slice.
abbrev pub HitsLieWithin : Type 0
HitsLieWithin =
    (text : List ℕ) (t : Tree) (from : ℕ) (hit : Hit) → from ≤ length text → TellsHit text t from hit
    → (from ≤ hit.from) × (hit.from ≤ hit.to) × (hit.to ≤ length text)
