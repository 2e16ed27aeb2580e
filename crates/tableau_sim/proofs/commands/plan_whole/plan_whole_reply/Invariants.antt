use Rattle.tableau_sim.proofs.commands.plan_whole.plan_whole_reply.Given as goal

abbrev pub ghosts-plan_whole_of : goal.ghosts-plan_whole_of
ghosts-plan_whole_of a = record { name = a.blank.name; parts = a.blank.parts }
