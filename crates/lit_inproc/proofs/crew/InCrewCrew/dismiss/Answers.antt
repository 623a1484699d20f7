use Rattle.tt_outside.specs.declared.crew.Left.{Left}
use Rattle.lit_inproc.proofs.HandLemmas.{recounted_behind}
use Rattle.lit_inproc.proofs.InsideLemmas.{in_same}
use Rattle.lit_inproc.proofs.crew.InCrewCrew.dismiss.Goals as goal

pub returns-clause-hands : goal.returns-clause-hands
returns-clause-hands g c =
    let hand = c.args.hand in
    let left : Left = record {
      begun = g.C.Hand.Runner.begun hand.hand;
      asked = g.C.Hand.Runner.asked hand.hand;
      faults = g.C.Hand.Runner.faults hand.hand;
    } in
    rw c.push_reserved.ensures.items (rw c.dismiss.ensures.hands
    (recounted_behind (g.C.Crew.hands c.args.self.now.crew) c.args.self.now.asked.items left hand.asked))

pub returns-clause-gave : goal.returns-clause-gave
returns-clause-gave g c = in_same _ _ c.dismiss.ensures.gave
