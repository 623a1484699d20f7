use Rattle.std.proofs.Common.{◌≡◌, drop}
use Rattle.prefix_tree.specs.Prefix.{meant, meant_from}
use Rattle.prefix_tree.proofs.tree.longest_among.Given as goal

abbrev pub invariant-loop-index : goal.invariant-loop-index
invariant-loop-index l = meant_from l.text l.index (drop l.index l.prefixes) l.best ≡ meant l.prefixes l.text
