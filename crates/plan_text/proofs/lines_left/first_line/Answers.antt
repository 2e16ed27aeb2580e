use Rattle.std.proofs.Common.{◌≡◌, [], ap, ◌∙◌, rules}
use Rattle.std.proofs.lemmas.List.{nil_from_length}
use Rattle.tab_words.specs.Lines.{lines_of}
use Rattle.tab_words.proofs.LineLemmas.{lines_of-nil}
use Rattle.plan_text.proofs.FirstLineLemmas.{line_up_to, only_line}
use Rattle.plan_text.proofs.lines_left.first_line.Goals as goal

pub returns-then-is_empty : goal.returns-then-is_empty
returns-then-is_empty c =
    let none : c.args.bytes.now ≡ [] = nil_from_length c.args.bytes.now (search rules) in
    ap lines_of none ∙ lines_of-nil

pub returns-in-Some : goal.returns-in-Some
returns-in-Some c = line_up_to c.args.bytes.now c.in-Some.end (search rules) (search rules) (search rules)

pub returns-in-None : goal.returns-in-None
returns-in-None c = only_line c.args.bytes.now (search rules) (search rules)
