use Rattle.std.proofs.Common.{sym, ap, ◌∙◌, subst}
use Rattle.ere_tree.specs.Tree.{Tree, repeat}
use Rattle.ere_tree.specs.View.{view}
use Rattle.ere_tree.proofs.ViewLemmas.{view_Set}
use Rattle.ere_one.specs.Walk.{Tells}
use Rattle.ere_one.proofs.walking.walk_repeat.Goals as goal

pub returns-in-Set : goal.returns-in-Set
returns-in-Set c =
    subst (λ (t : Tree). Tells c.args.slice.now (repeat t c.args.least c.args.most) c.args.follow c.args.at
    c.walk_sets.result)
    (sym (ap view c.in-Set.is ∙ view_Set c.in-Set.set)) c.walk_sets.ensures
