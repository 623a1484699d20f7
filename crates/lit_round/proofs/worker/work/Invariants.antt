use Rattle.std.proofs.Common.{◌≡◌, ◌+◌, ◌-◌, ◌≤◌, ◌<◌, ◌++◌, true, false, length}
use Rattle.std.specs.List.{All}
use Rattle.tt_outside.specs.Faults.{Rose}
use Rattle.tt_outside.specs.Gave.{SameGave}
use Rattle.lit_claims.specs.Counted.{count_below}
use Rattle.lit_claims.specs.Seats.{drawn_by, seat_id, share_of}
use Rattle.lit_round.specs.Hands.{room_of}
use Rattle.lit_round.specs.Trials.{IsTrialAmong, any_fault, sum_entries}
use Rattle.lit_round.specs.Work.{numbers_of}
use Rattle.lit_round.proofs.WorkLemmas.{Counts}
use Rattle.lit_round.proofs.worker.work.Given as goal

abbrev pub decreases-loop-place : goal.decreases-loop-place
decreases-loop-place g l = length l.shared.tests.now - l.place

-- a place was drawn, and the tests of all before it were run
abbrev pub invariant-loop-place : goal.invariant-loop-place
invariant-loop-place g l = record {
  own : seat_id l.seat ≡ seat_id l.fn.seat;
  share : share_of l.seat ≡ share_of l.fn.seat;
  most : All (λ n. n < l.place + 1) (drawn_by l.seat);
  last : count_below l.place (drawn_by l.seat) + 1 ≡ length (drawn_by l.seat);
  begun : g.H.Runner.begun l.hand ≡ g.H.Runner.begun l.fn.hand ++ numbers_of l.trials.items;
  counts : Counts l.shared.first (length l.shared.tests.now) l.place (drawn_by l.seat) l.trials.items;
  some : length l.trials.items ≤ l.place;
  room : room_of g.H.Runner l.hand ≡ room_of g.H.Runner l.fn.hand;
  given : All (IsTrialAmong (g.H.Runner.gave l.fn.hand) l.shared.first l.shared.tests.now) l.trials.items;
  asked : g.H.Runner.asked l.hand ≡ g.H.Runner.asked l.fn.hand + sum_entries l.trials.items;
  broken : any_fault l.trials.items ≡ true → Rose (g.H.Runner.faults l.fn.hand) (g.H.Runner.faults l.hand);
  calm : any_fault l.trials.items ≡ false → g.H.Runner.faults l.hand ≡ g.H.Runner.faults l.fn.hand;
  later : g.H.Runner.faults l.fn.hand ≤ g.H.Runner.faults l.hand;
  gave : SameGave (g.H.Runner.gave l.hand) (g.H.Runner.gave l.fn.hand);
  ready : g.H.Runner.ready l.hand;
  whole : l.whole ≡ true;
}
