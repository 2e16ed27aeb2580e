use Rattle.advice.proofs.step_lines.put_bad_step.Goals as goal

pub returns : goal.returns
returns g c = rw (← c.line_at.ensures) c.put_parts.ensures
