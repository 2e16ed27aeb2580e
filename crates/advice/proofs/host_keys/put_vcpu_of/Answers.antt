use Rattle.advice.proofs.host_keys.put_vcpu_of.Goals as goal

pub returns : goal.returns
returns g c = rw (← c.line_word.ensures, ← c.vcpu_line.ensures, ← c.line_part.ensures, ← c.space_of.ensures, ← c.part_of.ensures, ← c.part_of-2.ensures, ← c.stray_words.ensures, ← c.vcpu_rule.ensures) c.put_parts.ensures
