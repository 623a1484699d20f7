use Rattle.std.proofs.Common.{rules, tests}
use Rattle.lit_paths.proofs.NormalLemmas.{its_parts}
use Rattle.lit_paths.proofs.reading.joined.Goals as goal

pub returns-clause-parts : goal.returns-clause-parts
returns-clause-parts c = its_parts c.from_vec.result c.args.dir.now c.args.text.now (search (rules, tests))
