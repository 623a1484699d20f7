-- The grammar of extended regular expressions: the tree of a text, or its first fault. After POSIX.1 XBD 9.4
-- and 9.5.3, with back-references, and with `()` as a group of the empty expression. Own rules: groups are
-- nested at most 250 deep, and an expression's size is at most 100,000.
use Rattle.std.specs.Prelude.{◌≡◌, ℕ, zero, suc, ◌+◌, ◌-◌, Bool, Option, Some, None, List, [], ◌∷◌, map, Result, Ok, Err, nat_le, if◌then◌else◌}
use Rattle.ere_tree.specs.Tree.{Tree, empty, plain, set, line_start, line_end, cat, alt, repeat, group, back, trees_of}
use Rattle.ere_tree.specs.Shape.{size_of}
use Rattle.ere_tree.specs.Case.{both_cases, bracket_bytes, is_folded}
use Rattle.ere_tree.specs.Fault.{fault, and_then, map_ok, unless}
use Rattle.ere_tree.specs.Token.{Atom, Token, byte, one_of, same_as, item, bar, open_group, close_group, token}
use Rattle.ere_tree.specs.Token as tokens
use Rattle.ere_tree.specs.View.{view}
use Rattle.ere_tree.specs.declared.ere.Ere.{Ere}
use Rattle.ere_tree.specs.declared.fault.EreFail.{EreFail}
use Rattle.ere_tree.specs.declared.fault.EreFail.TheVariants.{Bad, NoMemory}
use Rattle.ere_tree.specs.declared.bound.Bound.{Bound}
use Rattle.ere_tree.specs.declared.fault.EreFault.{EreFault}
use Rattle.ere_tree.specs.declared.fault.EreKind.TheVariants.{TooLarge}
use Rattle.ere_tree.specs.Place.{Place, refusal, refusal_at_end, beginning, behind}

-- What the text says from a place on: the rest of the branch there, and the branches behind it at the same
-- level. They go up to the end, or up to a `)`, which may have a bound, and what the level outside goes on
-- with.
pub data Rest : Type 0 where
  ends : List Tree → List (List Tree) → Rest
  closes : List Tree → List (List Tree) → Option Bound → Rest → Rest

-- a byte before the parts of a branch: bytes that follow each other are one plain part
abbrev pub letter : ℕ → List Tree → List Tree
letter b (plain bs ∷ parts) = plain (b ∷ bs) ∷ parts
letter b parts = plain (b ∷ []) ∷ parts

-- a branch of these parts: one part is that part
abbrev pub branch_of : List Tree → Tree
branch_of [] = empty
branch_of (part ∷ []) = part
branch_of (first ∷ second ∷ parts) = cat (trees_of (first ∷ second ∷ parts))

-- alternatives: one branch is that branch
abbrev pub either_of : List Tree → Tree
either_of [] = empty
either_of (branch ∷ []) = branch
either_of (first ∷ second ∷ branches) = alt (trees_of (first ∷ second ∷ branches))

-- a tree with the bound behind it
abbrev pub repeated : Option Bound → Tree → Tree
repeated None tree = tree
repeated (Some bound) tree = repeat tree bound.least bound.most

-- a byte before the parts of a branch: with `fold` a letter is the set of its two cases
abbrev pub with_byte : Bool → ℕ → List Tree → List Tree
with_byte fold b parts = if is_folded fold b then set (both_cases (b ∷ [])) ∷ parts else letter b parts

-- the tree of an atom
abbrev pub atom_tree : Bool → Atom → Tree
atom_tree fold (byte b) = if is_folded fold b then set (both_cases (b ∷ [])) else plain (b ∷ [])
atom_tree fold (one_of negated members) = set (bracket_bytes fold negated members)
atom_tree fold (same_as number) = back number fold

-- the parts of a branch from an atom and its bound on: a byte with no bound joins the bytes behind it
abbrev pub with_item : Bool → Atom → Option Bound → List Tree → List Tree
with_item fold (byte b) None parts = with_byte fold b parts
with_item fold atom bound parts = repeated bound (atom_tree fold atom) ∷ parts

-- a rest whose first branch is changed
abbrev pub in_branch : (List Tree → List Tree) → Rest → Rest
in_branch change (ends here others) = ends (change here) others
in_branch change (closes here others bound outside) = closes (change here) others bound outside

-- the rest behind a `|` and the branch that ends there
abbrev pub behind_bar : Rest → Rest
behind_bar (ends here others) = ends [] (here ∷ others)
behind_bar (closes here others bound outside) = closes [] (here ∷ others) bound outside

-- What stands from a `(` on: its group, as a part of the level outside. (The end closes no group: see
-- `refusal_at_end`.)
abbrev pub grouped : ℕ → Rest → Rest
grouped number (ends here others) = ends (group number (either_of (map branch_of (here ∷ others))) ∷ []) []
grouped number (closes here others bound outside) =
    in_branch (λ parts. repeated bound (group number (either_of (map branch_of (here ∷ others))))
    ∷ parts) outside

-- what the text says from a token on
abbrev pub from_token : Bool → ℕ → Token → Rest → Rest
from_token fold number (item atom bound) rest = in_branch (with_item fold atom bound) rest
from_token fold number tokens.line_start rest = in_branch (λ parts. line_start ∷ parts) rest
from_token fold number tokens.line_end rest = in_branch (λ parts. line_end ∷ parts) rest
from_token fold number bar rest = behind_bar rest
from_token fold number open_group rest = grouped number rest
from_token fold number (close_group bound) rest = closes [] [] bound rest

-- the end of a text, unless it is refused
abbrev pub ended : Option EreFault → Result Rest EreFault
ended (Some refused) = Err refused
ended None = Ok (ends [] [])

-- what the text says from a place with an offset on, where so many bytes belong to the token before; or its
-- first fault
unfoldable pub reading_from : Bool → Place → ℕ → ℕ → List ℕ → Result Rest EreFault
reading_from fold place at skip [] = ended (refusal_at_end place at)
reading_from fold place at (suc skip) (b ∷ rest) = reading_from fold place (suc at) skip rest
reading_from fold place at zero (b ∷ rest) = and_then at (token (b ∷ rest)) (λ found.
    unless at (refusal place found.0) (map_ok (from_token fold (place.groups + 1) found.0)
    (reading_from fold (behind place at found.0) (suc at) (found.1 - 1) rest)))

-- the tree of a whole text
abbrev pub whole : Rest → Tree
whole (ends here others) = either_of (map branch_of (here ∷ others))
whole (closes here others bound outside) = either_of (map branch_of (here ∷ others))

-- the tree that the text is read as, however large, or its first fault
unfoldable pub tree_read : Bool → List ℕ → Result Tree EreFault
tree_read fold text = map_ok whole (reading_from fold beginning 0 0 text)

-- a tree that isn't too large
abbrev pub sized : Result Tree EreFault → Result Tree EreFault
sized (Ok tree) = if nat_le (size_of tree) 100000 then Ok tree else fault 0 TooLarge
sized (Err refused) = Err refused

-- the tree that the text is read as, or its first fault
unfoldable pub reading : Bool → List ℕ → Result Tree EreFault
reading fold text = sized (tree_read fold text)

-- what a parser answered is what the text is read as, unless memory ran out
abbrev pub Reads : Result Ere EreFail → Result Tree EreFault → Type 0
Reads (Ok ere) read = read ≡ Ok (view ere)
Reads (Err NoMemory) read = Unit {0}
Reads (Err (Bad refused)) read = read ≡ Err refused
