use Rattle.std.proofs.Common.{sym, ◌∙◌}
use Rattle.std.proofs.lemmas.Bool.{false≢true}
use Rattle.run_limit.proofs.walk.spans_of_row.Goals as goal

pub segments_of_row-requires-clause-home : goal.segments_of_row-requires-clause-home
segments_of_row-requires-clause-home c = λ x v away.
    let seen = c.requires.visits c.args.row away.other v x (λ e. away.elsewhere (sym e)) away.home away.stands in
    false≢true (sym c.if-visits-row.false ∙ seen.some)
