use Rattle.advice.proofs.usage.put_usage.Goals as goal

pub returns : goal.returns
returns g c = rw (← c.words_before.ensures, ← c.word_at.ensures) c.put_behind.ensures
