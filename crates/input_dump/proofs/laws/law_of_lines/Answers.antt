use Rattle.input_dump.proofs.LawLemmas.{all_lines_come_back}
use Rattle.input_dump.proofs.laws.law_of_lines.Goals as goal

pub returns : goal.returns
returns c = all_lines_come_back
