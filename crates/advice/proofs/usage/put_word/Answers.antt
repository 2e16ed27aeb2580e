use Rattle.advice.proofs.usage.put_word.Goals as goal

pub returns : goal.returns
returns g c = rw (← c.name_words.ensures, ← c.wanted_words.ensures) c.put_parts.ensures
