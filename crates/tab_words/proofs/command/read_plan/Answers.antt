use Rattle.std.proofs.Common.{ap, rules, ◌≡◌, ◌∷◌, codes}
use Rattle.std.proofs.lemmas.List.{nil_from_length}
use Rattle.tab_words.specs.Commands.{texts}
use Rattle.tab_words.proofs.CommandLemmas.{fault_of_plan, reading_stay, reading_whole}
use Rattle.tab_words.proofs.command.read_plan.Goals as goal

pub returns-in_default : goal.returns-in_default
returns-in_default c =
    ap (λ ws. codes "plan" ∷ texts ws) (nil_from_length c.args.rest.now c.in_default.ensures.cases)

pub returns-in-whole : goal.returns-in-whole
returns-in-whole c =
    let words : texts c.args.rest.now ≡ codes "whole" ∷ texts c.in-Some.more.now = search rules in
    rw words (reading_whole c.in-Some.more.now c.read_end.result c.read_end.ensures)

pub returns-in-stay : goal.returns-in-stay
returns-in-stay c =
    let words : texts c.args.rest.now ≡ codes "stay" ∷ texts c.in-Some.more.now = search rules in
    rw words (reading_stay c.in-Some.more.now c.read_end-in-stay.result c.read_end-in-stay.ensures)

pub returns-in_default-as_str : goal.returns-in_default-as_str
returns-in_default-as_str c =
    let words : texts c.args.rest.now ≡ c.as_str.result.now ∷ texts c.in-Some.more.now = search rules in
    rw words (fault_of_plan c.as_str.result.now (texts c.in-Some.more.now) c.in_default-as_str.not-whole
    c.in_default-as_str.not-stay)
