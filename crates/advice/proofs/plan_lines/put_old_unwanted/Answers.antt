use Rattle.advice.proofs.plan_lines.put_old_unwanted.Goals as goal

pub returns : goal.returns
returns g c = rw (← c.kind_of_plan_line.ensures, ← c.plan_kind_text.ensures, ← c.old_wanted_text.ensures) c.put_parts.ensures
