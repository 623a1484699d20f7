use Rattle.lit_pool.proofs.LawLemmas.{one_run}
use Rattle.lit_pool.proofs.laws.law_of_runs.Goals as goal

pub returns : goal.returns
returns g c = one_run (g.R.Runner.gave c.args.hand.now)
