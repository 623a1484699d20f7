use Rattle.check_hints.proofs.at_fault.run_before.Given as goal

abbrev pub ghosts-block_end : goal.ghosts-block_end
ghosts-block_end a = record { name = a.blank.name; parts = a.blank.parts }
