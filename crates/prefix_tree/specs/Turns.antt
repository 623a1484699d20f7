-- The turns of a tree as functions.
-- Own form, for speed alone: a front of prefixes is told by the first prefix that has it and by its length.
use Rattle.std.specs.Prelude.{ℕ, nat_eq, ◌&&◌, List, length}
use Rattle.std.specs.HashMap.{get}
use Rattle.prefix_tree.specs.Tree.{End, IsTree, Next}
use Rattle.prefix_tree.specs.declared.turns.Turns.{Turns}

-- the owner of a front with one more byte
abbrev pub next_of : Turns → Next
next_of turns owner length byte =
    get (λ x y. (nat_eq x.0 y.0 && nat_eq x.1 y.1) && nat_eq x.2 y.2) turns.next (owner, length, byte)

-- the first prefix that is a whole front
abbrev pub end_of : Turns → End
end_of turns owner length = get (λ x y. nat_eq x.0 y.0 && nat_eq x.1 y.1) turns.end (owner, length)

-- these turns are the tree of all these prefixes
abbrev pub IsWholeTree : Turns → List (List ℕ) → Type 0
IsWholeTree turns prefixes = ∥ IsTree (next_of turns) (end_of turns) prefixes (length prefixes) ∥₁
