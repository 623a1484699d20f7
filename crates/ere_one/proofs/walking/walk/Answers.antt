use Rattle.ere_tree.specs.View.{view}
use Rattle.ere_one.proofs.WalkLemmas.{told_longest}
use Rattle.ere_one.proofs.walking.walk.Goals as goal

pub returns : goal.returns
returns c = told_longest c.args.slice.now (view c.args.ere.now) c.args.at c.walk_before.result c.walk_before.ensures
