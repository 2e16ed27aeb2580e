use Rattle.advice.proofs.host_keys.put_rule_of.Goals as goal

pub returns : goal.returns
returns g c = rw (← c.either.ensures, ← c.line_part.ensures, ← c.rule_words.ensures) c.put_parts.ensures
