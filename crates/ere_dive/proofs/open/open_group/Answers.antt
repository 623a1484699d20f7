use Rattle.ere_tree.specs.Tree.{group}
use Rattle.ere_tree.specs.View.{view}
use Rattle.ere_dive.specs.Dive.{Does}
use Rattle.ere_dive.specs.declared.task.What.TheVariants.{Close, Match}
use Rattle.ere_dive.proofs.DiveLemmas.{group_ends, pushed, pushed_last}
use Rattle.ere_dive.proofs.open.open_group.Goals as goal

pub returns : goal.returns
returns c =
    let a = c.args in
    let s = a.site.text.now in
    let t = view a.inner.now in
    pushed_last a.site (Does s t) (Match a.inner) c.push.new.self c.push-2.new.self c.in_ok-push-2.ensures
    (λ q d e does. does)
    (pushed a.site (Does s t) (Does s (group a.number t)) (Close a.number a.state.place) a.state c.push.new.self
    c.in_ok-push.ensures
    (λ q d e both. group_ends s t a.number a.state.place both.0 q d both.1 e both.2 both.3) c.requires.leads)
