use Rattle.pattern_parse.proofs.StepLemmas.{regex_ends, regex_steps}
use Rattle.pattern_parse.proofs.cutting.regex_step.Goals as goal

pub returns-in-Some : goal.returns-in-Some
returns-in-Some c =
    regex_steps c.args.body.now c.behind.result.now c.args.at c.in-Some.count c.requires.front c.requires.within
    c.behind.ensures c.in-Some.ensures.exact c.in-Some.ensures.within

pub returns-in-None : goal.returns-in-None
returns-in-None c =
    regex_ends c.args.body.now c.behind.result.now c.args.at c.requires.front c.behind.ensures c.in-None.ensures.exact
