use Rattle.check_lines.proofs.CutLemmas as cuts
use Rattle.check_lines.proofs.canonical.one_cut.Goals as goal

pub returns : goal.returns
returns c = cuts.one_cut c.args.text.now
