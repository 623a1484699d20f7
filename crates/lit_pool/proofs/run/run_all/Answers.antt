use Rattle.std.proofs.Common.{[], refl}
use Rattle.std.proofs.lemmas.Result.{IfErr-weaker, IfOk-weaker}
use Rattle.lit_pool.specs.Pool.{IsStopped}
use Rattle.lit_pool.proofs.RunLemmas.{stopped_alone, stopped_same, trials_same}
use Rattle.lit_round.specs.Trials.{AreTrials}
use Rattle.lit_pool.proofs.run.run_all.Goals as goal

pub returns-in_default-clause-stopped : goal.returns-in_default-clause-stopped
returns-in_default-clause-stopped g c =
    rw c.stop.ensures (rw c.new.ensures.items (stopped_alone g.D.Desk.took g.D.Desk.kept (g.C.Crew.gave c.args.crew.now) c.args.tests.now 0
    c.args.desk.now c.args.desk.now [] refl tt))

pub returns-clause-trials : goal.returns-clause-trials
returns-clause-trials g c =
    let one = g.C.Crew.gave c.hire_all.new.crew in
    let two = g.C.Crew.gave c.args.crew.now in
    let tests = c.args.tests.now in
    IfOk-weaker c.run_rounds-hands.result.1 (AreTrials one 0 tests) (AreTrials two 0 tests)
    (λ trials are. trials_same one two c.hire_all.ensures.gave 0 tests trials are) (rw c.as_slice.ensures at c.run_rounds-hands.ensures.trials)

pub returns-clause-stopped : goal.returns-clause-stopped
returns-clause-stopped g c =
    let one = g.C.Crew.gave c.hire_all.new.crew in
    let two = g.C.Crew.gave c.args.crew.now in
    let tests = c.args.tests.now in
    let old = c.args.desk.now in
    let new = c.run_rounds-hands.new.desk in
    let D = g.D.Desk in
    IfErr-weaker c.run_rounds-hands.result.1 (IsStopped D.took D.kept one tests old new) (IsStopped D.took D.kept two tests old new)
    (λ stop is. stopped_same D.took D.kept one two c.hire_all.ensures.gave tests old new stop is)
    (rw c.as_slice.ensures at c.run_rounds-hands.ensures.stopped)
