use Rattle.lit_suite.proofs.WholeLemmas.{reading_is_whole}
use Rattle.lit_dirs.proofs.looking.read_in.Goals as goal

pub returns-in-Ok-read_suite-clause-whole : goal.returns-in-Ok-read_suite-clause-whole
returns-in-Ok-read_suite-clause-whole g c =
    reading_is_whole c.as_slice-in-Ok.result.now c.in-Ok-read_suite.suite c.in-Ok-read_suite.ensures
