use Rattle.check_tests.proofs.rows.verdict_of.Given as goal

abbrev pub ghosts-scanned : goal.ghosts-scanned
ghosts-scanned a = record { name = a.blank.name; parts = a.blank.parts }
