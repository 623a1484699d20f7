use Rattle.ere_tree.specs.View.{members_of}
use Rattle.ere_one.proofs.LeafLemmas.{told_set}
use Rattle.ere_one.proofs.leaf.walk_set.Goals as goal

pub returns-then-has : goal.returns-then-has
returns-then-has c = λ follow.
    told_set c.args.slice.now (members_of c.args.set.now.bits) c.args.at follow c.if-at-slice.true
    (c.has.ensures.member.0 c.if-has.true)
