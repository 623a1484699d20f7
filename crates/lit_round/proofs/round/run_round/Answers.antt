use Rattle.std.proofs.Common.{rules}
use Rattle.std.proofs.lemmas.List.Sorted.{IsNonDecreasingBy-from_sort_by_key}
use Rattle.lit_test.specs.declared.trial.Trial.{Trial}
use Rattle.lit_round.proofs.RoundLemmas.{runs_round}
use Rattle.lit_round.proofs.round.run_round.Goals as goal

pub returns-clause-trials : goal.returns-clause-trials
returns-clause-trials g c =
    let works = c.all_work-team.ensures.did.0.works in
    let ran = c.all_work-team.result.trials.items in
    runs_round c.args.first c.args.tests.now _ _ c.close.result _ works.begins c.close.ensures (g.C.Crew.gave c.args.crew.now) ran
    c.sort_unstable_by_key.new.self.items works.given (works.runs c.if-not-team.false) c.sort_unstable_by_key.ensures.permutation
    (IsNonDecreasingBy-from_sort_by_key (λ (t : Trial). t.number) _ c.sort_unstable_by_key.ensures.sorted (λ a r q k. search rules))
