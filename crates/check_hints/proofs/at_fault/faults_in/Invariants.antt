use Rattle.check_hints.proofs.at_fault.faults_in.Given as goal

abbrev pub ghosts-scanned : goal.ghosts-scanned
ghosts-scanned a = record { name = a.blank.name; parts = a.blank.parts }
