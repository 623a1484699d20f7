use Rattle.std.proofs.Common.{ℕ, List, refl, ap, ◌∙◌}
use Rattle.std.specs.List.{slice_get}
use Rattle.ere_tree.specs.View.{view}
use Rattle.ere_dive.specs.Dive.{Does}
use Rattle.ere_dive.proofs.DiveLemmas.{first_end, first_of, gone_on, leaf_does}
use Rattle.ere_dive.proofs.open.open_leaf.Goals as goal

pub returns-in-Some : goal.returns-in-Some
returns-in-Some c =
    let a = c.args in
    let end = c.in-Some.end.now in
    let led = first_end a.site.text.now (view a.ere.now) a.state.place a.site.high end c.in_ok-ends.ends c.in_ok-ends.ensures
    (first_of c.in_ok-ends.ends.items end (c.in-Some.ensures.value ∙ ap (λ (xs : List ℕ). slice_get xs 0) c.deref.ensures.value)) in
    gone_on a.site (Does a.site.text.now (view a.ere.now)) a.state
    (record { tasks = a.state.tasks; place = end; held = a.state.held }) refl refl led.1
    (λ d shows. leaf_does a.site.text.now (view a.ere.now) a.state.place end d c.requires.leaf led.0) c.requires.leads
