use Rattle.std.proofs.Common.{◌∙◌, sym}
use Rattle.ere_tree.specs.View.{members_of}
use Rattle.ere_one.proofs.LeafLemmas.{just_enough, run_admits, too_few}
use Rattle.ere_one.proofs.leaf.walk_sets.Goals as goal
use Rattle.ere_one.proofs.leaf.walk_sets.Goals.{then-end-at-2, else-end-at-2}

pub returns-then-end-at : goal.returns-then-end-at
returns-then-end-at c =
    let run = rw c.limit_of.ensures at c.run_end-end.ensures in
    too_few c.args.slice.now (members_of c.args.set.now.bits) c.args.least c.args.most c.args.follow c.args.at
    c.run_end-end.result run c.if-end-at.true

pub returns-then-is_apart : goal.returns-then-is_apart
returns-then-is_apart c =
    let run = rw c.limit_of.ensures at c.run_end-end.ensures in
    elim c.if-end-at-2.branch [
      | then-end-at-2 w ↦
          just_enough c.args.slice.now (members_of c.args.set.now.bits) c.args.least c.args.most c.args.follow c.args.at
          c.run_end-end.result c.requires run w.if-end-at-2.true
      | else-end-at-2 w ↦
          run_admits c.args.slice.now (members_of c.args.set.now.bits) c.args.least c.args.most c.args.follow c.args.at
          c.run_end-end.result c.requires run c.if-end-at.false
          (w.is_apart.ensures (sym w.value-is ∙ c.if-is_apart.true))
    ]
