-- What the tree over the system's folders is made of, and what it makes of what the system answers.
-- Own rules: it counts the errors that it met. A path through a file isn't found, and an item that isn't found any more is left
-- out; all else is a fault, but want of memory. What lies below the current directory is asked for by its path from there.
use Rattle.std.specs.Prelude.{ℕ, ◌==◌, ◌&&◌, not, Bool, true, false, if◌then◌else◌, List, [], ◌∷◌, drop, length, codes, Option, Some, None, Result, Ok, Err}
use Rattle.std.specs.declared.io.ErrorKind.{ErrorKind}
use Rattle.std.specs.declared.io.ErrorKind.TheVariants.{NotFound, NotADirectory, OutOfMemory}
use Rattle.tt_base.specs.Occurrence.{begins_with}
use Rattle.tt_outside.specs.declared.tree.Item.{Item}
use Rattle.tt_outside.specs.declared.tree.TreeFault.{TreeFault}
use Rattle.tt_outside.specs.declared.tree.TreeFault.TheVariants.{Missing, Failed, NoMemory}
use Rattle.tt_real.specs.declared.tree.StdTree.{StdTree}

-- the path that words are joined to
abbrev pub tree_base : {R : Type 0} → StdTree R → List ℕ
tree_base tree = tree.base

-- how many calls have failed
abbrev pub tree_faults : {R : Type 0} → StdTree R → ℕ
tree_faults tree = tree.faults

-- a path from the base, by what stands behind the base in it
abbrev pub from_base : List ℕ → List ℕ → List ℕ
from_base path [] = codes "."
from_base path (byte ∷ []) = path
from_base path (byte ∷ next ∷ rest) = if byte == 47 && not (next == 47) then next ∷ rest else path

-- the path by which the system is asked for another
abbrev pub asked_path : Bool → List ℕ → List ℕ → List ℕ
asked_path true base path = if begins_with path base then from_base path (drop (length base) path) else path
asked_path false base path = path

-- what an error of each kind means of a folder or its items
abbrev pub tree_fault : ErrorKind → TreeFault
tree_fault NotFound = Missing
tree_fault NotADirectory = Missing
tree_fault OutOfMemory = NoMemory
tree_fault _ = Failed

-- an item of a folder, left out where it isn't found any more
abbrev pub kept_item : Result Item TreeFault → Result (Option Item) TreeFault
kept_item (Ok item) = Ok (Some item)
kept_item (Err Missing) = Ok None
kept_item (Err fault) = Err fault
