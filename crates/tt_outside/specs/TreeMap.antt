-- What stands in a tree of directories.
-- Own rule: a tree is a finite map from paths to files with bytes, directories and others. It is told as a list of nodes,
-- of which the first for a path counts, and each path above a node is a directory, whether a node names it or not.
use Rattle.std.specs.Prelude.{◌≡◌, ◌≢◌, ◌==◌, ℕ, ◌<◌, nat_lt, Bool, true, false, ◌&&◌, ◌||◌, not, if◌then◌else◌, codes, ⊤}
use Rattle.std.specs.Prelude.{List, [], ◌∷◌, ◌++◌, length, Option, None, Some, Result, Ok, Err}
use Rattle.std.specs.List.{filter, find, list_any, list_all}
use Rattle.std.specs.Option.{option_map}
use Rattle.std.specs.Str.{bytes_eq}
use Rattle.tt_base.specs.Occurrence.{begins_with}
use Rattle.tt_outside.specs.declared.tree.Node.{Node}
use Rattle.tt_outside.specs.declared.tree.Counted.{Counted}
use Rattle.tt_outside.specs.declared.tree.Item.{Item}
use Rattle.tt_outside.specs.declared.tree.ItemKind.{ItemKind}
use Rattle.tt_outside.specs.declared.tree.ItemKind.TheVariants.{File, Dir, Other}
use Rattle.tt_outside.specs.declared.tree.TreeFault.{TreeFault}
use Rattle.tt_outside.specs.declared.tree.TreeFault.TheVariants.{Missing, NotDirectory, TooLarge, Failed, NoMemory}

-- ---- paths

-- how the paths below a directory begin
abbrev pub front_of : List ℕ → List ℕ
front_of dir = if bytes_eq dir (codes "/") then dir else dir ++ codes "/"

-- a path begins so, and goes on behind it
abbrev pub goes_on : List ℕ → List ℕ → Bool
goes_on front path = begins_with path front && nat_lt (length front) (length path)

-- a path lies below another
abbrev pub lies_below : List ℕ → List ℕ → Bool
lies_below dir path = goes_on (front_of dir) path

-- the name is one part of a path
abbrev pub is_part : List ℕ → Bool
is_part name = not (bytes_eq name []) && not (list_any (λ byte. byte == 47) name)

-- ---- nodes

-- the first node of a path
abbrev pub node_at : List Node → List ℕ → Option Node
node_at nodes path = find (λ node. bytes_eq node.path path) nodes

-- a node lies below the path
abbrev pub has_below : List Node → List ℕ → Bool
has_below nodes path = list_any (λ node. lies_below path node.path) nodes

-- a node's kind, or a directory where the path is above a node
abbrev pub kind_or : Option Node → Bool → Option ItemKind
kind_or (Some node) above = Some node.kind
kind_or None above = if above then Some Dir else None

-- what stands at a path
abbrev pub kind_at : List Node → List ℕ → Option ItemKind
kind_at nodes path = kind_or (node_at nodes path) (has_below nodes path)

abbrev pub is_dir : ItemKind → Bool
is_dir Dir = true
is_dir File = false
is_dir Other = false

-- a node is a directory, or no node lies below it
abbrev pub is_nested : List Node → Node → Bool
is_nested nodes node = is_dir node.kind || not (has_below nodes node.path)

-- only directories lie above other nodes
abbrev pub are_nested : List Node → Bool
are_nested nodes = list_all (is_nested nodes) nodes

-- ---- answers

-- the kind that a listing has for a name
abbrev pub kind_of : List Item → List ℕ → Option ItemKind
kind_of items name = option_map (λ item. item.kind) (find (λ item. bytes_eq item.name name) items)

-- no name is that of a later item
abbrev pub names_differ : List Item → Bool
names_differ [] = true
names_differ (item ∷ items) = not (list_any (λ other. bytes_eq other.name item.name) items) && names_differ items

-- what a directory lists: under each name of one part what stands there, each name once
pub record Lists (nodes : List Node) (dir : List ℕ) (items : List Item) : Type 0 where
  pub here : kind_at nodes dir ≡ Some Dir
  pub kinds : (name : List ℕ) → kind_of items name ≡ (if is_part name then kind_at nodes (front_of dir ++ name) else None)
  pub differ : names_differ items ≡ true

-- A directory is listed. NotDirectory is told exactly of a file, and Missing exactly where neither stands.
abbrev pub GivesItems : Option (List Node) → List ℕ → Result (List Item) TreeFault → Type 0
GivesItems None dir result = ⊤
GivesItems (Some nodes) dir (Ok items) = Lists nodes dir items
GivesItems (Some nodes) dir (Err Missing) = (kind_at nodes dir ≢ Some Dir) × (kind_at nodes dir ≢ Some File)
GivesItems (Some nodes) dir (Err NotDirectory) = kind_at nodes dir ≡ Some File
GivesItems (Some nodes) dir (Err TooLarge) = ⊤
GivesItems (Some nodes) dir (Err Failed) = ⊤
GivesItems (Some nodes) dir (Err NoMemory) = ⊤

-- an item has one of these names
abbrev pub is_named : List (List ℕ) → Item → Bool
is_named names item = list_any (λ name. bytes_eq item.name name) names

-- how many items there are, and those of some names
abbrev pub counted : List (List ℕ) → List Item → Counted
counted names items = record { count = length items; named = filter (is_named names) items }

-- The items that a directory lists are counted. The faults are those of a listing.
abbrev pub GivesCount : Option (List Node) → List ℕ → List (List ℕ) → Result Counted TreeFault → Type 0
GivesCount None dir names result = ⊤
GivesCount (Some nodes) dir names (Ok few) = (items : List Item) × Lists nodes dir items × (few ≡ counted names items)
GivesCount (Some nodes) dir names (Err fault) = GivesItems (Some nodes) dir (Err fault)

-- the bytes of a node that is a file
abbrev pub bytes_of_kind : ItemKind → List ℕ → Option (List ℕ)
bytes_of_kind File bytes = Some bytes
bytes_of_kind Dir bytes = None
bytes_of_kind Other bytes = None

abbrev pub bytes_of_node : Option Node → Option (List ℕ)
bytes_of_node None = None
bytes_of_node (Some node) = bytes_of_kind node.kind node.bytes

-- the bytes of the file at a path
abbrev pub file_at : List Node → List ℕ → Option (List ℕ)
file_at nodes path = bytes_of_node (node_at nodes path)

-- A file's bytes are given. Missing is told exactly where no file stands, and TooLarge exactly past the limit.
abbrev pub GivesText : Option (List Node) → List ℕ → ℕ → Result (List ℕ) TreeFault → Type 0
GivesText None path limit result = ⊤
GivesText (Some nodes) path limit (Ok bytes) = (file_at nodes path ≡ Some bytes) × ¬ (limit < length bytes)
GivesText (Some nodes) path limit (Err Missing) = file_at nodes path ≡ None
GivesText (Some nodes) path limit (Err NotDirectory) = ⊤
GivesText (Some nodes) path limit (Err TooLarge) =
    (bytes : List ℕ) × (file_at nodes path ≡ Some bytes) × (limit < length bytes)
GivesText (Some nodes) path limit (Err Failed) = ⊤
GivesText (Some nodes) path limit (Err NoMemory) = ⊤
