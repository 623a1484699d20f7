use Rattle.pattern_parse.proofs.StepLemmas.{text_steps}
use Rattle.pattern_parse.proofs.cutting.text_step.Goals as goal

pub returns : goal.returns
returns c =
    text_steps c.args.body.now c.behind.result.now c.args.at c.run_length.result c.requires.front c.requires.within
    c.behind.ensures c.run_length.ensures.exact c.run_length.ensures.within
