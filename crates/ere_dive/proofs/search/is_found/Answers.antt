-- All states that wait lead to a match, so one that is done is one.
use Rattle.std.proofs.Common.{Vec, Global, refl, sym, subst, arith}
use Rattle.ere_dive.specs.Dive.{AllLead}
use Rattle.ere_dive.specs.declared.task.State.{State}
use Rattle.ere_dive.proofs.DiveLemmas.{finished, last_leads, none_lead, one_more_leads}
use Rattle.ere_dive.proofs.search.is_found.Goals.{then-not-branches+in_ok-opened+in_ok-put-2, else-not-branches+in_ok-put+else-branch}
use Rattle.ere_dive.proofs.search.is_found.Goals as goal

pub loop-init : goal.loop-init
loop-init c = record {
  leads =
      one_more_leads c.args.site c.new-stack.result.items c.push.new.self.items c.in_ok-start.field-0
      c.in_ok-push.ensures.items (none_lead c.args.site c.new-stack.result.items c.new-stack.ensures.items)
      c.in_ok-start.ensures;
  left = omega arith;
}

pub returns-then-is_done-clause-found : goal.returns-then-is_done-clause-found
returns-then-is_done-clause-found c = λ yes.
    finished c.args.site c.in-Some.state (c.if-is_done.ensures.tasks refl) (c.if-is_done.ensures.place refl)
    (last_leads c.args.site c.loop.stack.items c.pop.new.self.items c.in-Some.state c.in-Some.ensures.items
    c.loop.invariant.leads).0

pub open-requires-clause-leads : goal.open-requires-clause-leads
open-requires-clause-leads c =
    (last_leads c.args.site c.loop.stack.items c.pop.new.self.items c.in-Some.state c.in-Some.ensures.items
    c.loop.invariant.leads).0

pub loop-preserved : goal.loop-preserved
loop-preserved c = record {
  leads =
      let site = c.args.site in
      let rest = (last_leads site c.loop.stack.items c.pop.new.self.items c.in-Some.state c.in-Some.ensures.items
      c.loop.invariant.leads).1 in
      elim c.if-not-branches.branch [
        | then-not-branches+in_ok-opened+in_ok-put-2 w ↦
            subst (λ (v : Vec State Global). AllLead site v.items) (sym w.stack-is)
            (w.in_ok-put-2.ensures site w.in_ok-opened.ensures rest)
        | else-not-branches+in_ok-put+else-branch w ↦
            subst (λ (v : Vec State Global). AllLead site v.items) (sym w.stack-is) rest
      ];
  left = omega (arith, c.loop.invariant.left, c.saturating_sub.ensures);
}
