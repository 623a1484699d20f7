-- The trees of a list of expressions.
use Rattle.std.proofs.Common.{◌≡◌, map, rules}
use Rattle.ere_tree.specs.Tree.{trees_of}
use Rattle.ere_tree.specs.View.{view, trees_in}
use Rattle.ere_tree.specs.declared.ere.EreList.{EreList}
use Rattle.ere_tree.specs.declared.ere.Ere.TheFolds.{fold_out-EreList}

-- they are those of its expressions
pub trees_in_map : (all : EreList) → trees_in all ≡ trees_of (map view all.held.items)
trees_in_map all = search (rules, fold_out-EreList)
