-- What each piece of a pattern is in the expression that is sought, and what a match gives the names that it defines.
-- After LLVM Command Guide, FileCheck, 'FileCheck String Substitution Blocks' and 'FileCheck Numeric Substitution Blocks'.
-- Own rules: the groups of all pieces are numbered in one row; a value that its format can't print is out of range.
use Rattle.std.specs.Prelude.{ℕ, ◌+◌, ℤ, Bool, if◌then◌else◌, Option, Some, None, List, [], ◌∷◌, Result, Ok, Err}
use Rattle.std.specs.FinMap.{FinMap, get, insert}
use Rattle.std.specs.List.{cons_option}
use Rattle.std.specs.Option.{option_map}
use Rattle.ere_tree.specs.Folded.{folded}
use Rattle.ere_tree.specs.Shape.{greatest_group, shifted}
use Rattle.ere_tree.specs.Tree.{Tree, group, back}
use Rattle.ere_tree.specs.Tree as tree
use Rattle.num_base.specs.Eval.{value_of}
use Rattle.num_base.specs.Names.{name_cmp}
use Rattle.num_base.specs.Term.{Term}
use Rattle.num_base.specs.declared.evaluation.EvalFault.{EvalFault}
use Rattle.num_base.specs.declared.evaluation.EvalFault.TheVariants.{Range}
use Rattle.num_base.specs.declared.format.Format.{Format}
use Rattle.num_exprs.specs.Block.{Num}
use Rattle.num_spell.specs.Spelling.{prints}
use Rattle.num_spell.specs.Wild.{wild}
use Rattle.pattern_parse.specs.Item.{Item, plain, regex, define, recall, number}
use Rattle.pattern_instance.specs.Known.{Known}
use Rattle.pattern_instance.specs.declared.gift.Gift.{Gift}
use Rattle.pattern_instance.specs.declared.gift.Gift.TheVariants.{Text, Number, Given}

-- what a piece is: its part of the expression, how many groups that has, and what it gives
pub record Part : Type 0 where
  pub tree : Tree
  pub groups : ℕ
  pub gift : Option Gift

-- the texts that are defined before, each with the number of its nearest group
abbrev pub Groups : Type 0
Groups = FinMap name_cmp ℕ

-- an expression that matches in either case where `fold` says so
abbrev pub cased : Bool → Tree → Tree
cased fold t = if fold then folded t else t

-- a part without groups
abbrev pub ungrouped : Tree → Option Gift → Part
ungrouped t gift = record { tree = t; groups = 0; gift = gift }

-- an expression in a group of its own, behind n groups
abbrev pub in_group : ℕ → Tree → Option Gift → Part
in_group n t gift =
    record { tree = group (n + 1) (shifted (n + 1) t); groups = 1 + greatest_group t; gift = gift }

-- an expression as it is, behind n groups
abbrev pub regex_part : ℕ → Tree → Part
regex_part n t = record { tree = shifted n t; groups = greatest_group t; gift = None }

-- what a recall stands for: the text of the nearest group of its name, else the stored text
abbrev pub recalled : Bool → Option ℕ → Option (List ℕ) → Tree
recalled fold (Some nearest) text = back nearest fold
recalled fold None (Some text) = cased fold (tree.plain text)
recalled fold None None = tree.empty

-- the same where so much is known
abbrev pub recalled_in : Known → Groups → List ℕ → Tree
recalled_in known groups name = recalled known.fold (get groups name) (known.text name)

-- the printed bytes of a value, which is given to the name that the block defines
abbrev pub shown : Bool → Option (List ℕ) → ℤ → Option (List ℕ) → Result Part EvalFault
shown fold defines value None = Err Range
shown fold defines value (Some bytes) =
    Ok (ungrouped (cased fold (tree.plain bytes)) (option_map (λ name. Given name value) defines))

abbrev pub valued : Bool → Option (List ℕ) → Format → Result ℤ EvalFault → Result Part EvalFault
valued fold defines format (Ok value) = shown fold defines value (prints format value)
valued fold defines format (Err fault) = Err fault

-- all that a format spells, in a group of its own
abbrev pub spelled : Bool → ℕ → Option (List ℕ) → Format → Part
spelled fold n defines format =
    in_group n (cased fold (wild format)) (option_map (λ name. Number name n format) defines)

abbrev pub number_part : Known → ℕ → Option (List ℕ) → Format → Option Term → Result Part EvalFault
number_part known n defines format None = Ok (spelled known.fold n defines format)
number_part known n defines format (Some t) =
    valued known.fold defines format (value_of known.number known.at t)

abbrev pub block_part : Known → ℕ → Num → Format → Result Part EvalFault
block_part known n num format = number_part known n num.defines format num.expr

-- the part of a piece behind n groups
abbrev pub part_of : Known → ℕ → Groups → Item → Result Part EvalFault
part_of known n groups (plain bytes) = Ok (ungrouped (cased known.fold (tree.plain bytes)) None)
part_of known n groups (regex t) = Ok (regex_part n t)
part_of known n groups (define name t) = Ok (in_group n t (Some (Text name n)))
part_of known n groups (recall name) = Ok (ungrouped (recalled_in known groups name) None)
part_of known n groups (number num format) = block_part known n num format

-- the groups of texts behind a piece
abbrev pub groups_behind : ℕ → Groups → Item → Groups
groups_behind n groups (plain bytes) = groups
groups_behind n groups (regex t) = groups
groups_behind n groups (define name t) = insert groups name (n + 1)
groups_behind n groups (recall name) = groups
groups_behind n groups (number num format) = groups

-- the parts of pieces, and what they give
pub record Parts : Type 0 where
  pub trees : List Tree
  pub gifts : List Gift

abbrev pub no_parts : Parts
no_parts = record { trees = []; gifts = [] }

abbrev pub with_part : Part → Parts → Parts
with_part part rest = record { trees = part.tree ∷ rest.trees; gifts = cons_option part.gift rest.gifts }

abbrev pub map_parts : (Parts → Parts) → Result Parts EvalFault → Result Parts EvalFault
map_parts f (Ok rest) = Ok (f rest)
map_parts f (Err fault) = Err fault

abbrev pub behind_part : Result Part EvalFault → (ℕ → Result Parts EvalFault) → Result Parts EvalFault
behind_part (Ok part) rest = map_parts (with_part part) (rest part.groups)
behind_part (Err fault) rest = Err fault

-- the parts of pieces that stand behind n groups, or the first fault from the left
abbrev pub parts_from : Known → ℕ → Groups → List Item → Result Parts EvalFault
parts_from known n groups [] = Ok no_parts
parts_from known n groups (one ∷ items) =
    behind_part (part_of known n groups one)
    (λ more. parts_from known (n + more) (groups_behind n groups one) items)
