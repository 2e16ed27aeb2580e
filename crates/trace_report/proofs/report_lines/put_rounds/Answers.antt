use Rattle.std.proofs.lemmas.Result.{err_from_is_err_and}
use Rattle.tab_words.proofs.PieceLemmas.{pieces_last, pieces_broken}
use Rattle.trace_report.specs.ReportText.{round_line}
use Rattle.trace_report.proofs.report_lines.put_rounds.Goals as goal

pub returns-in_err-put_round : goal.returns-in_err-put_round
returns-in_err-put_round g c =
    let p = err_from_is_err_and c.from_residual.result c.from_residual.ensures.1 in
    rw p.1 (pieces_broken _ _ _ round_line c.args.plans.now c.loop-one.one-index _
    (tt {0}) _ c.in_err-put_round.field-0.0 c.loop-one-test.true c.loop-one.invariant
    c.put_round.ensures c.in_err-put_round.was)

pub loop-one-preserved : goal.loop-one-preserved
loop-one-preserved g c =
    pieces_last _ _ _ round_line c.args.plans.now c.loop-one.one-index _
    (tt {0}) c.in_ok-put_round.field-0 _ c.loop-one-test.true c.loop-one.invariant
    c.put_round.ensures c.in_ok-put_round.was
