-- How a tree in memory lists a directory.
-- Own rule: each node below the directory gives the first part of what its path has behind it, once.
use Rattle.std.specs.Prelude.{◌==◌, ℕ, Bool, if◌then◌else◌, List, [], ◌∷◌, ◌++◌, length, drop, Option, None, Some}
use Rattle.std.specs.List.{before_first, list_any}
use Rattle.std.specs.Option.{option_map, option_and_then}
use Rattle.std.specs.Str.{bytes_eq}
use Rattle.tt_outside.specs.declared.tree.Node.{Node}
use Rattle.tt_outside.specs.declared.tree.Item.{Item}
use Rattle.tt_outside.specs.TreeMap.{front_of, goes_on, kind_at}

-- a path up to its first slash
abbrev pub first_part : List ℕ → List ℕ
first_part path = before_first (λ byte. byte == 47) path

-- the part that is not empty
abbrev pub unless_empty : List ℕ → Option (List ℕ)
unless_empty [] = None
unless_empty (byte ∷ part) = Some (byte ∷ part)

-- the part of a path behind the front of a directory
abbrev pub part_behind : List ℕ → List ℕ → Option (List ℕ)
part_behind front path = if goes_on front path then unless_empty (first_part (drop (length front) path)) else None

-- the item of a name, where something stands there
abbrev pub item_named : List Node → List ℕ → List ℕ → Option Item
item_named nodes front name = option_map (λ kind. record { name = name; kind = kind }) (kind_at nodes (front ++ name))

-- the item that a node gives
abbrev pub item_of : List Node → List ℕ → Node → Option Item
item_of nodes front node = option_and_then (item_named nodes front) (part_behind front node.path)

abbrev pub has_name : List Item → List ℕ → Bool
has_name items name = list_any (λ item. bytes_eq item.name name) items

-- the items with one more, if its name is new
abbrev pub with_item : List Item → Option Item → List Item
with_item items None = items
with_item items (Some item) = if has_name items item.name then items else items ++ item ∷ []

-- the items with those of some nodes
abbrev pub with_items : List Node → List ℕ → List Item → List Node → List Item
with_items nodes front items [] = items
with_items nodes front items (node ∷ rest) = with_items nodes front (with_item items (item_of nodes front node)) rest

-- the items of a directory
abbrev pub listed : List Node → List ℕ → List Item
listed nodes dir = with_items nodes (front_of dir) [] nodes
