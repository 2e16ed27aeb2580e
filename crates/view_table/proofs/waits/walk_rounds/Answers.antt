use Rattle.std.proofs.Common.{◌∙◌, get_or, rules}
use Rattle.view_table.specs.Inside.Walks.{IsWalked}
use Rattle.view_table.specs.Waits.{is_served}
use Rattle.view_table.proofs.WalkLemmas.{walk_again, walk_begin, walk_end, walk_marked}
use Rattle.view_table.proofs.waits.walk_rounds.Goals as goal

pub returns-clause-waits : goal.returns-clause-waits
returns-clause-waits c = λ slots v low are.
    let served = is_served slots v in
    let order = c.args.order.now in
    let begin : IsWalked served order v 0 (get_or c.args.ends.now v 0) (get_or c.args.waits.now v 0)
    (get_or c.args.marks.now v 0) =
    rw (c.requires.begins v (search rules), c.requires.fresh v (search rules), c.requires.unset v (search rules))
    (walk_begin slots order v are) in
    let first = c.walk_round.ensures.walked served v (search rules) begin in
    let second = c.walk_round-2.ensures.walked served v (search rules) (walk_again slots order v _ _ _ are first) in
    c.end_waits.ensures.waits v (search rules) ∙ walk_end slots v _ _ _ second

pub returns-clause-marks : goal.returns-clause-marks
returns-clause-marks c = λ slots v low are.
    let served = is_served slots v in
    let order = c.args.order.now in
    let begin : IsWalked served order v 0 (get_or c.args.ends.now v 0) (get_or c.args.waits.now v 0)
    (get_or c.args.marks.now v 0) =
    rw (c.requires.begins v (search rules), c.requires.fresh v (search rules), c.requires.unset v (search rules))
    (walk_begin slots order v are) in
    let first = c.walk_round.ensures.walked served v (search rules) begin in
    let second = c.walk_round-2.ensures.walked served v (search rules) (walk_again slots order v _ _ _ are first) in
    rw (c.end_marks.ensures.marks v (search rules)) (walk_marked slots v _ _ _ second)
