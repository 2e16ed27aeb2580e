use Rattle.advice.proofs.part.put_end.Goals as goal

pub returns : goal.returns
returns g c = rw (← c.end_of_quote.ensures) c.write_all.ensures
