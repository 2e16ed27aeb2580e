use Rattle.std.proofs.Common.{List, ℕ, ◌++◌, codes, option_map, subst}
use Rattle.tab_io.specs.Sinks.{Writes}
use Rattle.advice.specs.KeyLines.{line_part}
use Rattle.advice.specs.Keys.{other_line}
use Rattle.advice.specs.Parts.{quote_of}
use Rattle.advice.proofs.host_keys.put_other_of.Goals as goal

pub returns : goal.returns
returns g c =
    let word = option_map {U = List ℕ} (λ text. text.now) c.args.other in
    subst (λ (rule : List ℕ). Writes {U = Unit {0}} (g.K.Sink.state c.args.sink.now)
    (g.K.Sink.state c.put_parts.new.sink)
    (codes "tableau: host" ++ (line_part (other_line word c.args.section.now) ++ (codes ": " ++ (quote_of word
    ++ (rule ++ codes "\n"))))) c.put_parts.result) c.host_rule.ensures
    (rw (← c.other_line.ensures, ← c.line_part.ensures, ← c.part_of.ensures) c.put_parts.ensures)
