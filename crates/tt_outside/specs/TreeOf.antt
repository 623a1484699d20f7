-- What a tree in memory tells. Own rule: it tells everything, its nodes and which of its calls fail.
use Rattle.std.specs.Prelude.{ℕ, List}
use Rattle.tt_outside.specs.Plan.{NeverFails}
use Rattle.tt_outside.specs.declared.plan.Plan.{Plan}
use Rattle.tt_outside.specs.declared.tree.Node.{Node}
use Rattle.tt_outside.specs.declared.mem_tree.MemTree.{MemTree}

abbrev pub tree_nodes : MemTree → List Node
tree_nodes tree = tree.nodes

abbrev pub tree_base : MemTree → List ℕ
tree_base tree = tree.base

abbrev pub tree_plan : MemTree → Plan
tree_plan tree = tree.plan

-- how many of its calls have failed
abbrev pub tree_faults : MemTree → ℕ
tree_faults tree = (tree_plan tree).faults

-- no later call fails
abbrev pub tree_steady : MemTree → Type 0
tree_steady tree = NeverFails (tree_plan tree)
