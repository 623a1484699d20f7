use Rattle.std.proofs.Common.{◌≡◌, ◌≤◌, take}
use Rattle.std.specs.List.{list_any}
use Rattle.tt_outside.specs.Gave.{SameGave, last_of}
use Rattle.inner_answers.specs.Inside.{AreFit, is_broken}
use Rattle.lit_inproc.specs.Inside.{AreGiven, RoseIf, more}
use Rattle.lit_inproc.proofs.hand.replies.Given as goal

abbrev pub invariant-loop-request : goal.invariant-loop-request
invariant-loop-request g l = record {
  given : AreGiven (g.H.Runner.gave l.fn.hand (last_of 0 (g.H.Runner.begun l.fn.hand)) l.fn.earlier) (take l.request-index l.asked)
      l.replies;
  fit : AreFit (take l.request-index l.asked) l.replies;
  counted : g.H.Runner.asked l.hand ≡ more (g.H.Runner.asked l.fn.hand) l.request-index;
  later : g.H.Runner.faults l.fn.hand ≤ g.H.Runner.faults l.hand;
  rose : RoseIf (list_any is_broken l.replies) (g.H.Runner.faults l.fn.hand) (g.H.Runner.faults l.hand);
  begun : g.H.Runner.begun l.hand ≡ g.H.Runner.begun l.fn.hand;
  room : g.H.Runner.rooms l.hand ≡ g.H.Runner.rooms l.fn.hand;
  gave : SameGave (g.H.Runner.gave l.hand) (g.H.Runner.gave l.fn.hand);
  ready : g.H.Runner.ready l.hand;
}
