use Rattle.filecheck_tool.proofs.verdict.faults_in.Given as goal

abbrev pub ghosts-faults_by : goal.ghosts-faults_by
ghosts-faults_by a = record { name = a.blank.name; parts = a.blank.parts }
