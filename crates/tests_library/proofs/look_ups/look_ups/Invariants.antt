use Rattle.tests_library.proofs.look_ups.look_ups.Given as goal

abbrev pub ghosts-all_show : goal.ghosts-all_show
ghosts-all_show g a = record { name = a.blank.name; parts = a.blank.parts }
