use Rattle.advice.proofs.hosts.put_period.Goals as goal

pub returns : goal.returns
returns g c = rw (← c.line_part.ensures) c.put_parts.ensures
