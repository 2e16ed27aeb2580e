use Rattle.tests_library.proofs.networks.each_search_gives_a_tick.Given as goal

abbrev pub ghosts-raising_searches : goal.ghosts-raising_searches
ghosts-raising_searches g a = record { name = a.blank.name; parts = a.blank.parts }
