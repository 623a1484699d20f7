use Rattle.pattern_parse.proofs.StepLemmas.{block_ends, block_steps}
use Rattle.pattern_parse.proofs.cutting.block_step.Goals as goal

pub returns-in-Some : goal.returns-in-Some
returns-in-Some c =
    block_steps c.args.body.now c.behind.result.now c.args.at c.in-Some.count c.requires.front c.requires.within
    c.behind.ensures c.in-Some.ensures.exact c.in-Some.ensures.within

pub returns-in-None : goal.returns-in-None
returns-in-None c =
    block_ends c.args.body.now c.behind.result.now c.args.at c.requires.front c.behind.ensures c.in-None.ensures.exact
