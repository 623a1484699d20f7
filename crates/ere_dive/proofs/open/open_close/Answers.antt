use Rattle.std.proofs.Common.{refl}
use Rattle.std.specs.FinMap.{insert}
use Rattle.ere_dive.specs.Dive.{DoesTask}
use Rattle.ere_dive.specs.declared.task.What.TheVariants.{Close}
use Rattle.ere_dive.proofs.DiveLemmas.{closed_shows, moved}
use Rattle.ere_dive.proofs.open.open_close.Goals as goal

pub returns : goal.returns
returns c =
    let a = c.args in
    let held = rw c.as_slice.ensures.value at c.in_ok-state.ensures in
    moved a.site (DoesTask a.site.text.now (Close a.number a.from)) a.state
    (record { tasks = a.state.tasks; place = a.state.place; held = c.in_ok-state.field-0 }) refl c.requires.leads.inside
    (λ d shows. (
      insert d a.number (a.from, a.state.place),
      (refl, refl),
      closed_shows a.number a.from a.state.place a.state.held.items c.in_ok-state.field-0.items d held shows,
    )) c.requires.leads
