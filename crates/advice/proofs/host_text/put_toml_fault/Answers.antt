use Rattle.advice.proofs.host_text.put_toml_fault.Goals as goal

pub returns : goal.returns
returns g c = rw (← c.place_at.ensures) c.put_toml_at.ensures
