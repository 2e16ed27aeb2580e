use Rattle.tableau_sim.specs.Gen.{Gens}
use Rattle.tableau_sim.proofs.commands.gen_host.gen_reply.Goals as goal

pub returns-in-Ok : goal.returns-in-Ok
returns-in-Ok c = λ section. (Gens.Generated c.in-Ok.host c.in-Ok.ensures.generated, c.in-Ok.ensures.admitted)
