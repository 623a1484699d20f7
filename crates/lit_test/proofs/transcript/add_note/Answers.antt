use Rattle.lit_test.proofs.transcript.add_note.Goals as goal

pub returns-in-NoProgram : goal.returns-in-NoProgram
returns-in-NoProgram c = rw c.in-NoProgram.is (rw c.as_slice.ensures at c.add_ended.ensures)

pub returns-in-NoFile : goal.returns-in-NoFile
returns-in-NoFile c = rw c.in-NoFile.is (rw c.as_slice-in-NoFile.ensures at c.add_ended-in-NoFile.ensures)

pub returns-in-NoWrite : goal.returns-in-NoWrite
returns-in-NoWrite c = rw c.in-NoWrite.is (rw c.as_slice-in-NoWrite.ensures at c.add_ended-in-NoWrite.ensures)
