use Rattle.std.proofs.Common.{Vec, Global, sym, subst}
use Rattle.ere_dive.specs.Dive.{AllLead, LeadsTo, OpensTo}
use Rattle.ere_dive.specs.declared.open.Opened.{Opened}
use Rattle.ere_dive.specs.declared.task.State.{State}
use Rattle.ere_dive.proofs.DiveLemmas.{one_more_leads}
use Rattle.ere_dive.proofs.search.put.Goals.{in-MoreFirst, in-LessFirst, then-len-lt-MOST_STATES+in_ok-push-in-Two, else-len-lt-MOST_STATES}
use Rattle.ere_dive.proofs.search.put.Goals as goal

pub returns-in_ok-push-in-One : goal.returns-in_ok-push-in-One
returns-in_ok-push-in-One c = λ site opens all.
    one_more_leads site c.args.stack.now.items c.push.new.self.items c.in-One.state
    c.in_ok-push-in-One.ensures.items all (subst (λ (o : Opened). OpensTo site o) c.in-One.is opens)

pub returns-in_ok-push-in-Two-2 : goal.returns-in_ok-push-in-Two-2
returns-in_ok-push-in-Two-2 c = λ site opens all.
    let two = subst (λ (o : Opened). OpensTo site o) c.in-Two.is opens in
    let both : LeadsTo site c.match-order.now.0 × LeadsTo site c.match-order.now.1 = elim c.match-order.branch [
      | in-MoreFirst w ↦ subst (λ (x : State × State). LeadsTo site x.0 × LeadsTo site x.1) (sym w.now-is) two
      | in-LessFirst w ↦
          subst (λ (x : State × State). LeadsTo site x.0 × LeadsTo site x.1) (sym w.now-is) (two.1, two.0)
    ] in
    let later : AllLead site c.if-len-lt-MOST_STATES.stack.items = elim c.if-len-lt-MOST_STATES.branch [
      | then-len-lt-MOST_STATES+in_ok-push-in-Two w ↦
          subst (λ (v : Vec State Global). AllLead site v.items) (sym w.stack-is)
          (one_more_leads site c.args.stack.now.items w.push-then-len-lt-MOST_STATES.new.self.items
          c.match-order.now.1 w.in_ok-push-in-Two.ensures.items all both.1)
      | else-len-lt-MOST_STATES w ↦ subst (λ (v : Vec State Global). AllLead site v.items) (sym w.stack-is) all
    ] in
    one_more_leads site c.if-len-lt-MOST_STATES.stack.items c.push-in-Two.new.self.items c.match-order.now.0
    c.in_ok-push-in-Two-2.ensures.items later both.0
