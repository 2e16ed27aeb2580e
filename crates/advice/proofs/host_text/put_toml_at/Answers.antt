use Rattle.advice.proofs.host_text.put_toml_at.Goals as goal

pub returns : goal.returns
returns g c = rw (← c.line_at-line.ensures, ← c.kind_of_text-kind.ensures, ← c.kind_text.ensures) c.put_parts.ensures
