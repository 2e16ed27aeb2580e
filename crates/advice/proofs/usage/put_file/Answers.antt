use Rattle.advice.proofs.usage.put_file.Goals as goal

pub returns : goal.returns
returns g c = rw (← c.rounds_words.ensures, ← c.file_word.ensures) c.put_parts.ensures
