use Rattle.std.proofs.Common.{rules, ◌≡◌, ◌∷◌, decimal}
use Rattle.tab_words.specs.Commands.{texts}
use Rattle.tab_words.proofs.CommandLemmas.{fault_of_selftest, reading_selftest}
use Rattle.tab_words.proofs.command.read_selftest.Goals as goal

pub returns-in_default : goal.returns-in_default
returns-in_default c = fault_of_selftest (texts c.args.rest.now) (search rules)

pub returns : goal.returns
returns c =
    let words : texts c.args.rest.now ≡ decimal c.in-Some.seed ∷ texts c.in-Some.more.now = search rules in
    rw words (reading_selftest c.in-Some.seed c.in-Some.more.now c.read_end.result (search rules)
    c.read_end.ensures)
