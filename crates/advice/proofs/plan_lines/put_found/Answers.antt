use Rattle.advice.proofs.plan_lines.put_found.Goals as goal

pub returns : goal.returns
returns g c = rw (← c.kind_of_plan_line.ensures, ← c.plan_kind_text.ensures) c.put_parts.ensures
