use Rattle.pattern_tests.proofs.seeking.answer.Given as goal

abbrev pub ghosts-sought_by : goal.ghosts-sought_by
ghosts-sought_by a = record { name = a.blank.name; parts = a.blank.parts }
