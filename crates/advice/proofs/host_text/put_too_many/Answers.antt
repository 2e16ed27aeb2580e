use Rattle.advice.proofs.host_text.put_too_many.Goals as goal

pub returns : goal.returns
returns g c = rw (← c.vcpu_start.ensures, ← c.line_part.ensures, ← c.saturating_sub.ensures) c.put_parts.ensures
