use Rattle.std.proofs.Common.{rules, ◌≡◌, ◌∷◌, decimal}
use Rattle.tab_words.specs.Commands.{texts}
use Rattle.tab_words.proofs.CommandLemmas.{fault_of_mode, fault_of_run, reading_mode}
use Rattle.tab_words.proofs.command.read_run.Goals as goal

pub returns-in_default : goal.returns-in_default
returns-in_default c = fault_of_run (texts c.args.rest.now) (search rules)

pub returns-in-Some-mode_of : goal.returns-in-Some-mode_of
returns-in-Some-mode_of c =
    let words : texts c.args.rest.now ≡ decimal c.in-Some.rounds ∷ c.as_str.result.now ∷ texts c.in-Some-split_first.more.now =
    search rules in
    rw words (reading_mode c.in-Some.rounds c.in-Some-mode_of.mode c.as_str.result.now c.in-Some-split_first.more.now c.read_end.result
    (search rules) c.in-Some-mode_of.ensures c.read_end.ensures)

pub returns-in-None : goal.returns-in-None
returns-in-None c =
    let words : texts c.args.rest.now ≡ decimal c.in-Some.rounds ∷ c.as_str.result.now ∷ texts c.in-Some-split_first.more.now =
    search rules in
    rw words (fault_of_mode c.in-Some.rounds c.as_str.result.now (texts c.in-Some-split_first.more.now)
    (search rules) c.in-None.ensures)
