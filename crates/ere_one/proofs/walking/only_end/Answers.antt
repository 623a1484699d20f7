use Rattle.std.proofs.Common.{map}
use Rattle.ere_tree.specs.Tree.{trees_of}
use Rattle.ere_tree.specs.View.{view}
use Rattle.ere_one.proofs.WalkLemmas.{told_only}
use Rattle.ere_one.proofs.walking.only_end.Goals as goal

pub returns-in-Ends : goal.returns-in-Ends
returns-in-Ends c =
    told_only c.args.slice.now (view c.args.first.now) (trees_of (map view c.args.others.now)) c.behind.result c.args.at
    c.in-Ends.end c.behind.ensures c.in-Ends.ensures
