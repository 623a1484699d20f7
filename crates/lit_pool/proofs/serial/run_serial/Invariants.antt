use Rattle.std.proofs.Common.{◌≡◌, ◌+◌, ◌*◌, ◌^◌, ◌≤◌, ◌++◌, length, take}
use Rattle.std.specs.List.{range_with_len}
use Rattle.lit_desk.specs.Desk.{PutFrom}
use Rattle.lit_round.specs.Trials.{AreTrials, sum_entries}
use Rattle.lit_pool.specs.Pool.{CountsFor, GoesOn}
use Rattle.lit_pool.proofs.serial.run_serial.Given as goal

abbrev pub invariant-loop-test : goal.invariant-loop-test
invariant-loop-test g l = record {
  place : l.place ≡ l.test-index;
  long : length l.trials.items ≡ l.place;
  are : AreTrials (g.R.Runner.gave l.fn.hand) 0 (take l.place l.tests) l.trials.items;
  put : PutFrom g.D.Desk.took l.fn.desk 0 l.trials.items l.desk;
  begun : g.R.Runner.begun l.hand ≡ g.R.Runner.begun l.fn.hand ++ range_with_len 0 l.place;
  room : l.place + g.R.Runner.rooms l.hand ≡ g.R.Runner.rooms l.fn.hand;
  few : sum_entries l.trials.items ≤ l.place * 2 ^ 24;
  counts : CountsFor g.R.Runner l.fn.hand l.hand l.trials.items;
  goes_on : GoesOn g.R.Runner l.fn.hand l.hand;
}
