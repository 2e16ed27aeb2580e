use Rattle.advice.proofs.script_lines.put_script_line.Goals as goal

pub returns : goal.returns
returns g c = rw (← c.line_at.ensures) c.put_parts.ensures
