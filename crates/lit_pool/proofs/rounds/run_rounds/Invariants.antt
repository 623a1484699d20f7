use Rattle.std.proofs.Common.{◌≡◌, ◌-◌, ◌≤◌, length, take}
use Rattle.std.specs.List.{All}
use Rattle.lit_round.specs.Hands.{IsHandOf, all_left, rooms_of}
use Rattle.lit_round.specs.Trials.{AreTrials}
use Rattle.lit_desk.specs.Desk.{PutFrom}
use Rattle.lit_pool.proofs.CrewLemmas.{Went}
use Rattle.lit_pool.proofs.rounds.run_rounds.Given as goal

abbrev pub decreases-loop-first : goal.decreases-loop-first
decreases-loop-first g l = length l.tests - l.first

abbrev pub invariant-loop-first : goal.invariant-loop-first
invariant-loop-first g l = record {
  within : l.first ≤ length l.tests;
  are : AreTrials (g.C.Crew.gave l.crew) 0 (take l.first l.tests) l.trials.items;
  put : PutFrom g.D.Desk.took l.fn.desk 0 l.trials.items l.desk;
  own : All (IsHandOf g.C.Hand.Runner (g.C.Crew.gave l.crew)) l.hands.items;
  rooms : rooms_of g.C.Hand.Runner l.hands.items ≡ rooms_of g.C.Hand.Runner l.fn.hands.items;
  went : Went (length l.fn.hands.items) (length l.tests) l.first l.trials.items (all_left g.C.Hand.Runner l.hands.items);
}
