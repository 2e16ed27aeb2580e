use Rattle.trace_report.proofs.change_line.put_change.Goals as goal

pub returns-in-NoPeriod : goal.returns-in-NoPeriod
returns-in-NoPeriod g c =
    rw (c.in-NoPeriod.is, ← c.name_in.ensures) c.put_change_words-in-NoPeriod.ensures
