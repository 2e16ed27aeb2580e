use Rattle.view_schedulers.proofs.lines.write_deadline.Goals as goal

pub returns : goal.returns
returns g c = rw (← c.deref.ensures.value, ← c.deref-2.ensures.value) c.put_deadline_text.ensures
