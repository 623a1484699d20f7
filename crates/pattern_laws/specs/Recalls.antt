-- What a recall means: the nearest definition of its name to its left, and where there is none the stored text.
-- After LLVM Command Guide, FileCheck, 'FileCheck String Substitution Blocks'.
use Rattle.std.specs.Prelude.{◌≡◌, ℕ, ◌+◌, Option, Some, List, [], ◌∷◌, ◌++◌, length, slice_get, Ok}
use Rattle.std.specs.FinMap.{empty}
use Rattle.ere_tree.specs.Shape.{shifted}
use Rattle.ere_tree.specs.Tree.{Tree, plain, group, back}
use Rattle.pattern_instance.specs.Known.{Known}
use Rattle.pattern_instance.specs.Parts.{Parts, cased, parts_from}
use Rattle.pattern_parse.specs.Item.{Item, define, recall}

-- the piece defines a text of this name
abbrev pub Defines : List ℕ → Item → Type 0
Defines name (define other t) = other ≡ name
Defines name item = ⊥

-- none of the pieces does
abbrev pub NoneDefines : List ℕ → List Item → Type 0
NoneDefines name [] = Unit {0}
NoneDefines name (one ∷ items) = (Defines name one → ⊥) × NoneDefines name items

-- these are the parts of the pieces
abbrev pub AreParts : Known → List Item → Parts → Type 0
AreParts known items parts = parts_from known 0 empty items ≡ Ok parts

-- the tree of the piece behind so many pieces
abbrev pub tree_of : Parts → ℕ → Option Tree
tree_of parts n = slice_get parts.trees n

-- Law: where no piece between them defines the name, the recall behind a definition is a reference to its group.
abbrev pub RecallIsNearest : Type 0
RecallIsNearest =
    (known : Known) (front : List Item) (name : List ℕ) (t : Tree) (between rest : List Item) (parts : Parts)
    → AreParts known (front ++ define name t ∷ (between ++ recall name ∷ rest)) parts → NoneDefines name between
    → (k : ℕ) × (tree_of parts (length front) ≡ Some (group k (shifted k t)))
    × (tree_of parts (length front + (1 + length between)) ≡ Some (back k known.fold))

-- Law: a recall with no definition to its left is the stored text.
abbrev pub RecallIsStored : Type 0
RecallIsStored =
    (known : Known) (front : List Item) (name text : List ℕ) (rest : List Item) (parts : Parts)
    → AreParts known (front ++ recall name ∷ rest) parts → NoneDefines name front → known.text name ≡ Some text
    → tree_of parts (length front) ≡ Some (cased known.fold (plain text))
