use Rattle.std.proofs.Common.{◌≡◌, ◌∙◌, ap}
use Rattle.advice.specs.Lines.{line_at}
use Rattle.advice.specs.Scripts.{bad_line_words}
use Rattle.advice.proofs.script_lines.put_bad_line.Goals as goal

pub returns : goal.returns
returns g c =
    let what : c.bad_line_words.result.now ≡ bad_line_words (line_at c.args.number c.args.script.now) =
    c.bad_line_words.ensures ∙ ap bad_line_words c.line_at.ensures in
    rw (← what) c.put_script_line.ensures
