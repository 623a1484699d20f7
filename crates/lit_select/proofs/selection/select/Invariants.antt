use Rattle.lit_select.proofs.selection.select.Given as goal

abbrev pub ghosts-select_by : goal.ghosts-select_by
ghosts-select_by a = record { name = a.blank.name; parts = a.blank.parts }
