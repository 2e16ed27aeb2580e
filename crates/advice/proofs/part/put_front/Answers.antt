use Rattle.advice.proofs.part.put_front.Goals as goal

pub returns : goal.returns
returns g c = rw (← c.front_of.ensures) c.put_shown.ensures
