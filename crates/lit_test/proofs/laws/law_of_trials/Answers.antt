use Rattle.lit_test.proofs.LawLemmas.{one_trial}
use Rattle.lit_test.proofs.laws.law_of_trials.Goals as goal

pub returns : goal.returns
returns g c = one_trial (g.R.Runner.gave c.args.hand.now)
