use Rattle.std.proofs.Common.{◌≤◌, ◌-◌, [], All, length, take, drop}
use Rattle.check_group.specs.Changes.{IsReady}
use Rattle.check_scan.specs.Parts.{parts_of}
use Rattle.check_scan.specs.Runs.{Runs, block_at}
use Rattle.check_scan.proofs.block.run_block.Given as goal

abbrev pub invariant-loop-check : goal.invariant-loop-check
invariant-loop-check g l = record {
  nots : l.nots ≤ length l.since;
  here : l.progress.place ≤ length l.subject.text.now;
  always_ready : All (IsReady l.progress.vars) l.subject.always.now;
  ready : All (IsReady l.progress.vars) l.since;
  runs : Runs (block_at l.subject (parts_of l.last l.checks) [] l.fn.progress)
      (block_at l.subject (parts_of l.last (drop l.nots l.since)) (take l.nots l.since) l.progress) l.fn.progress l.progress;
}

abbrev pub decreases-loop-check : goal.decreases-loop-check
decreases-loop-check g l = length l.since - l.nots
