use Rattle.std.proofs.Common.{refl, subst}
use Rattle.ere_dive.specs.Dive.{DoesTask, LeadsBy}
use Rattle.ere_dive.specs.declared.task.State.{State}
use Rattle.ere_dive.specs.declared.task.What.{What}
use Rattle.ere_dive.specs.declared.task.What.TheVariants.{Beyond}
use Rattle.ere_dive.proofs.DiveLemmas.{gone_on, popped}
use Rattle.ere_dive.proofs.open.open.Goals as goal

pub open_match-requires-clause-leads : goal.open_match-requires-clause-leads
open_match-requires-clause-leads c =
    let a = c.args in
    let rest : State = record { tasks = c.pop.new.self; place = a.state.place; held = a.state.held } in
    subst (λ (x : What). LeadsBy a.site (DoesTask a.site.text.now x) rest) c.in-Match.is
    (popped a.site a.state rest c.in-Some.task c.in-Some.ensures.items refl refl c.requires.leads)

pub open_parts-requires-clause-leads : goal.open_parts-requires-clause-leads
open_parts-requires-clause-leads c =
    let a = c.args in
    let rest : State = record { tasks = c.pop.new.self; place = a.state.place; held = a.state.held } in
    subst (λ (x : What). LeadsBy a.site (DoesTask a.site.text.now x) rest) c.in-Parts.is
    (popped a.site a.state rest c.in-Some.task c.in-Some.ensures.items refl refl c.requires.leads)

pub open_choices-requires : goal.open_choices-requires
open_choices-requires c =
    let a = c.args in
    let rest : State = record { tasks = c.pop.new.self; place = a.state.place; held = a.state.held } in
    record {
      leads = subst (λ (x : What). LeadsBy a.site (DoesTask a.site.text.now x) rest) c.in-Choices.is
          (popped a.site a.state rest c.in-Some.task c.in-Some.ensures.items refl refl c.requires.leads);
    }

pub open_members-requires-clause-leads : goal.open_members-requires-clause-leads
open_members-requires-clause-leads c =
    let a = c.args in
    let rest : State = record { tasks = c.pop.new.self; place = a.state.place; held = a.state.held } in
    subst (λ (x : What). LeadsBy a.site (DoesTask a.site.text.now x) rest) c.in-Members.is
    (popped a.site a.state rest c.in-Some.task c.in-Some.ensures.items refl refl c.requires.leads)

pub open_close-requires : goal.open_close-requires
open_close-requires c =
    let a = c.args in
    let rest : State = record { tasks = c.pop.new.self; place = a.state.place; held = a.state.held } in
    record {
      leads = subst (λ (x : What). LeadsBy a.site (DoesTask a.site.text.now x) rest) c.in-Close.is
          (popped a.site a.state rest c.in-Some.task c.in-Some.ensures.items refl refl c.requires.leads);
    }

pub returns-in-Beyond : goal.returns-in-Beyond
returns-in-Beyond c =
    let a = c.args in
    let s = a.site.text.now in
    let rest : State = record { tasks = c.pop.new.self; place = a.state.place; held = a.state.held } in
    gone_on a.site (DoesTask s (Beyond c.in-Beyond.from)) rest rest refl refl c.requires.leads.inside
    (λ d shows. (c.if-state-from.true, refl, refl))
    (subst (λ (x : What). LeadsBy a.site (DoesTask s x) rest) c.in-Beyond.is
    (popped a.site a.state rest c.in-Some.task c.in-Some.ensures.items refl refl c.requires.leads))
