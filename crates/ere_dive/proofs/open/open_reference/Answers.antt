use Rattle.std.proofs.Common.{refl}
use Rattle.ere_tree.specs.Tree.{back}
use Rattle.ere_dive.specs.Dive.{Does}
use Rattle.ere_dive.proofs.DiveLemmas.{gone_on, refers}
use Rattle.ere_dive.proofs.open.open_reference.Goals as goal

pub returns-in-Some-stands_to : goal.returns-in-Some-stands_to
returns-in-Some-stands_to c =
    let a = c.args in
    let end = c.in-Some-stands_to.end in
    let at = rw c.as_slice.ensures.value at c.in-Some.ensures.there in
    gone_on a.site (Does a.site.text.now (back a.number a.fold)) a.state
    (record { tasks = a.state.tasks; place = end; held = a.state.held }) refl refl c.in-Some-stands_to.ensures.1
    (λ d shows. refers a.site a.number a.fold a.state.place end d c.in-Some.one a.state.held.items at
    c.in-Some.ensures.own c.in-Some-stands_to.ensures shows) c.requires.leads
