use Rattle.lit_paths.proofs.CutLemmas.{cut_there, no_slash_last}
use Rattle.lit_paths.proofs.writing.cut_name.Goals as goal

pub returns-in-Some : goal.returns-in-Some
returns-in-Some c = λ front name is none. cut_there c.args.text.now front name c.in-Some.at is none c.in-Some.ensures

pub returns-in-None : goal.returns-in-None
returns-in-None c = λ front name is none. absurd (no_slash_last c.args.text.now front name is c.in-None.ensures)
