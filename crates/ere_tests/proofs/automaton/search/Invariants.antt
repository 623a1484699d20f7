use Rattle.ere_tests.proofs.automaton.search.Given as goal

abbrev pub ghosts-shown : goal.ghosts-shown
ghosts-shown a = record { name = a.blank.name; parts = a.blank.parts }
