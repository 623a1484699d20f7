use Rattle.file_laws.proofs.FileLemmas.{made_files_are_read}
use Rattle.file_laws.proofs.laws.law_of_reading.Goals as goal

pub returns : goal.returns
returns c = made_files_are_read
