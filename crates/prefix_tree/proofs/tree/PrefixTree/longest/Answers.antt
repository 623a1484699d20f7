use Rattle.std.proofs.Common.{None, arith, sym, ◌∙◌}
use Rattle.prefix_tree.proofs.HeadsLemmas.{none_meant}
use Rattle.prefix_tree.proofs.PrefixLemmas.{counts_by_value, meant_counts, meant_once}
use Rattle.prefix_tree.proofs.TreeLemmas.{among_by_value, within_by_value}
use Rattle.prefix_tree.specs.Prefix.{meant}
use Rattle.prefix_tree.proofs.tree.PrefixTree.longest.Goals as goal

pub returns-else-may_begin-clause-longest : goal.returns-else-may_begin-clause-longest
returns-else-may_begin-clause-longest c =
    none_meant c.args.self.now.heads c.args.self.now.prefixes.now c.args.text.now (λ i inside. omega (arith, c.type_inv.text i))
    c.args.self.now.begins (sym c.may_begin.ensures ∙ c.if-may_begin.false)

pub returns-else-may_begin-clause-value : goal.returns-else-may_begin-clause-value
returns-else-may_begin-clause-value c =
    meant_once c.args.self.now.prefixes.now c.args.text.now None (meant c.args.self.now.prefixes.now c.args.text.now)
    (returns-else-may_begin-clause-longest c) (meant_counts c.args.self.now.prefixes.now c.args.text.now)

pub returns-then-may_begin-clause-longest : goal.returns-then-may_begin-clause-longest
returns-then-may_begin-clause-longest c =
    counts_by_value c.args.self.now.prefixes.now c.args.text.now c.longest_of.result c.longest_of.ensures

pub returns-then-may_begin-clause-within : goal.returns-then-may_begin-clause-within
returns-then-may_begin-clause-within c =
    within_by_value c.args.self.now.prefixes.now c.args.text.now c.longest_of.result c.longest_of.ensures

pub returns-then-may_begin-clause-among : goal.returns-then-may_begin-clause-among
returns-then-may_begin-clause-among c =
    among_by_value c.args.self.now.prefixes.now c.args.text.now c.longest_of.result c.longest_of.ensures
