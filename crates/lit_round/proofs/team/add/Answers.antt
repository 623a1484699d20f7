use Rattle.std.proofs.Common.{rules, ◌++◌, ◌∙◌, ap, if◌then◌else◌, is_ok}
use Rattle.std.proofs.lemmas.Bool.{cases_cond}
use Rattle.lit_round.proofs.WorkLemmas.{all_three}
use Rattle.lit_round.proofs.team.add.Goals as goal

pub returns-clause-trials : goal.returns-clause-trials
returns-clause-trials g c =
    cases_cond (is_ok c.append.result) _ c.args.team.trials.items _ c.append.ensures.items

pub returns-clause-whole : goal.returns-clause-whole
returns-clause-whole g c is =
    let each = all_three c.args.team.whole c.args.worked.whole c.is_ok-taken.result is in (
      each.0,
      each.1,
      c.append.ensures.items ∙ ap (λ ok. if ok then c.args.team.trials.items ++ c.args.worked.trials.items else c.args.team.trials.items)
          (search rules ∙ each.2),
    )
