use Rattle.std.proofs.Common.{ap, arith, rules, ◌≡◌, [], ◌∷◌}
use Rattle.std.proofs.lemmas.List.{nil_from_length}
use Rattle.tab_words.specs.Commands.{texts}
use Rattle.tab_words.proofs.CommandLemmas.{begins_once, begins_none, begins_nothing}
use Rattle.tab_words.proofs.command.read_first.Goals as goal
use Rattle.tab_words.proofs.command.read_first.Goals.{else-least-number-via-then-least-number+else-number-most, else-least-number-via-else-least-number}

pub returns-in_default-clause-none : goal.returns-in_default-clause-none
returns-in_default-clause-none c =
    let none : texts c.args.words.now ≡ [] =
    ap texts (nil_from_length c.args.words.now c.in_default.ensures.cases) in
    begins_nothing c.args.least c.args.most (texts c.args.words.now) none

pub returns-in_default-read_number-clause-none : goal.returns-in_default-read_number-clause-none
returns-in_default-read_number-clause-none c =
    let words : texts c.args.words.now ≡ c.as_bytes.result.now ∷ texts c.in-Some.rest.now = search rules in
    begins_none c.args.least c.args.most (texts c.args.words.now) c.as_bytes.result.now
    (texts c.in-Some.rest.now) words c.ranges.most.fits (search rules)

pub returns-else-least-number-clause-none : goal.returns-else-least-number-clause-none
returns-else-least-number-clause-none c =
    let words : texts c.args.words.now ≡ c.as_bytes.result.now ∷ texts c.in-Some.rest.now = search rules in
    λ begins.
    let same = begins_once c.args.least c.args.most (texts c.args.words.now) c.as_bytes.result.now
    (texts c.in-Some.rest.now) c.in-Some-read_number.number words c.ranges.most.fits (search rules) begins in
    elim c.else-least-number.branch [
      | else-least-number-via-then-least-number+else-number-most w ↦ omega (arith, same, begins.few)
      | else-least-number-via-else-least-number w ↦ omega (arith, same, begins.enough)
    ]
