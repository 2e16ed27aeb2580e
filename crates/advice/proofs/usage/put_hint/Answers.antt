use Rattle.advice.proofs.usage.put_hint.Goals as goal

pub returns-then-asks_help : goal.returns-then-asks_help
returns-then-asks_help g c = rw (← c.if-not-is_begun.ensures, ← c.if-asks_help.ensures) c.write_all.ensures
