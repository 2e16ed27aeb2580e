use Rattle.advice.proofs.host_keys.put_same_name.Goals as goal

pub returns : goal.returns
returns g c = rw (← c.name_at.ensures, ← c.part_of.ensures, ← c.vcpu_line.ensures, ← c.line_part.ensures) c.put_parts.ensures
