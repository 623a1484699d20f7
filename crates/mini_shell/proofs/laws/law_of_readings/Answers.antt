use Rattle.mini_shell.proofs.UniqueLemmas.{reading_is_one}
use Rattle.mini_shell.proofs.laws.law_of_readings.Goals as goal

pub returns : goal.returns
returns c = reading_is_one
