use Rattle.advice.proofs.script_lines.bad_line_words.Goals as goal

pub returns : goal.returns
returns c = rw (← c.kind_of_script_line.ensures) c.script_kind_text.ensures
