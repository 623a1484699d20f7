use Rattle.std.proofs.Common.{◌≡◌, length, subst, arith}
use Rattle.std.proofs.lemmas.Grind.{merely}
use Rattle.prefix_tree.specs.Tree.{IsTree}
use Rattle.prefix_tree.specs.Turns.{end_of, next_of}
use Rattle.prefix_tree.proofs.tree.turns_of.Goals as goal

pub returns : goal.returns
returns c =
    let all : c.loop-index.index ≡ length c.args.prefixes.now =
    omega (arith, c.loop-index-test.false, c.loop-index.auto.index-end) in
    merely (subst (IsTree (next_of c.loop-index.turns) (end_of c.loop-index.turns) c.args.prefixes.now) all c.loop-index.invariant)
