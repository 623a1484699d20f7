use Rattle.std.proofs.Common.{rules}
use Rattle.check_lines.proofs.CutLemmas.{canon_of_cut}
use Rattle.check_lines.proofs.canonical.canon.Goals as goal

pub returns-clause-cut : goal.returns-clause-cut
returns-clause-cut c = canon_of_cut c.args.strict c.args.text.now c.canon_owned.result (search rules)
