use Rattle.std.proofs.Common.{◌≤◌, All, false, length}
use Rattle.check_group.specs.Changes.{IsReady}
use Rattle.check_scan.specs.Blocks.{blocks_of}
use Rattle.check_scan.specs.Runs.{Runs, verdict_at}
use Rattle.check_scan.proofs.verdict.run_blocks.Given as goal

abbrev pub invariant-loop-at : goal.invariant-loop-at
invariant-loop-at g l = record {
  here : l.progress.place ≤ length l.subject.text.now;
  always_ready : All (IsReady l.progress.vars) l.subject.always.now;
  ready : All (IsReady l.progress.vars) l.rest;
  runs : Runs (verdict_at l.subject l.var_scope false (blocks_of l.checks) l.fn.progress)
      (verdict_at l.subject l.var_scope l.forget (blocks_of l.rest) l.progress) l.fn.progress l.progress;
}

abbrev pub decreases-loop-at : goal.decreases-loop-at
decreases-loop-at g l = length l.rest
